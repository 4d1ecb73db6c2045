-- What a literal becomes is of its kind.
use Rattle.std.specs.Option.{option_map, unwrap_or}
use Rattle.std.specs.Prelude.{Err, None, Ok, Some, false, refl, true, ◌≡◌}
use Rattle.lq_base.proofs.ValueLemmas.{into_kind-is_value}
use Rattle.lq_base.specs.Value.{into_kind, is_value_of}
use Rattle.lq_base.specs.declared.kind.Kind.{Kind}
use Rattle.lq_base.specs.declared.literal.Literal.{Literal}
use Rattle.lq_base.specs.declared.literal.Literal.TheVariants as literal
use Rattle.lq_base.specs.declared.value.Value.TheVariants as value
use Rattle.lq_model.specs.Kinds.{column_of, default_value, is_wide, is_wrong, literal_of, value_in}
use Rattle.lq_model.specs.declared.column.ColumnDef.{ColumnDef}

pub null_fits : (k : Kind) → is_value_of k value.Null ≡ true
unfolding is_value_of
null_fits k = refl

pub into_fits : (l : Literal) (k : Kind) → is_wrong (into_kind l k) ≡ false → is_wide (into_kind l k) ≡ false → is_value_of k (value_in (into_kind l k)) ≡ true
into_fits l k h w = elim (into_kind l k) as (λ r. into_kind l k ≡ r → is_value_of k (value_in r) ≡ true) [
  | Ok v ↦ λ p. into_kind-is_value l k v p
  | Err e ↦ λ p. null_fits k
] refl

pub default_into : (def : ColumnDef) → is_wrong (into_kind (literal_of def) def.kind) ≡ false → is_wide (into_kind (literal_of def) def.kind) ≡ false → is_value_of def.kind (default_value (column_of def)) ≡ true
default_into def h w = elim def.default as (λ o. is_wrong (into_kind (unwrap_or o literal.Null) def.kind) ≡ false → is_wide (into_kind (unwrap_or o literal.Null) def.kind) ≡ false → is_value_of def.kind (unwrap_or (option_map (λ l. value_in (into_kind l def.kind)) o) value.Null) ≡ true) [
  | None ↦ λ p q. null_fits def.kind
  | Some l ↦ λ p q. into_fits l def.kind p q
] h w
