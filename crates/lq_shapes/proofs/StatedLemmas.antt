-- Lemmas on stated defaults.
use Rattle.std.proofs.Common.{ap, false, refl, subst, sym, ◌≡◌}
use Rattle.std.specs.Prelude.{Bool, None, Ok, Option, Some}
use Rattle.lq_base.specs.Value.{into_kind}
use Rattle.lq_base.specs.declared.kind.Kind.{Kind}
use Rattle.lq_base.specs.declared.kind.Kind.TheVariants as kind
use Rattle.lq_base.specs.declared.literal.Literal.{Literal}
use Rattle.lq_base.specs.declared.literal.Literal.TheVariants as literal
use Rattle.lq_base.specs.declared.value.Value.TheVariants as value
use Rattle.lq_base.specs.declared.name.Name.{Name}
use Rattle.lq_base.specs.declared.value.Value.{Value}
use Rattle.lq_model.specs.Kinds.{is_wide, is_wrong}
use Rattle.lq_model.specs.declared.column.ColumnDef.{ColumnDef}
use Rattle.lq_shapes.specs.Created.{IsColumn, IsStated}
use Rattle.lq_shapes.specs.declared.stated.NewColumn.{NewColumn}
use Rattle.lq_shapes.specs.declared.stated.Stated.{Stated}

null_goes_in : (k : Kind) → into_kind literal.Null k ≡ Ok value.Null
unfolding into_kind
null_goes_in kind.Int = refl
null_goes_in kind.BigInt = refl
null_goes_in kind.Boolean = refl
null_goes_in (kind.Varchar most) = refl
null_goes_in kind.Text = refl
null_goes_in kind.Moment = refl
null_goes_in (kind.Decimal digits places) = refl

module _ (name : Name) (nullable numbered : Bool) where
  abbrev def_of : Kind → Option Literal → ColumnDef
  def_of k default = record { name = name; kind = k; nullable = nullable; default = default; numbered = numbered }

  abbrev new_of : Kind → Option Value → Bool → Bool → NewColumn
  new_of k v wrong wide = record { column = record { name = name; kind = k; nullable = nullable; default = v; numbered = numbered }; is_wrong = wrong; is_wide = wide }

  -- nothing is against a column without a default
  plain : (k : Kind) → IsColumn (def_of k None) (new_of k None false false)
  plain k = record { column = refl; wrong = sym (ap is_wrong (null_goes_in k)); wide = sym (ap is_wide (null_goes_in k)) }

  -- and against one with a default what its literal becomes
  given : (k : Kind) (l : Literal) (it : Stated) → IsStated (into_kind l k) it → IsColumn (def_of k (Some l)) (new_of k (Some it.value) it.is_wrong it.is_wide)
  given k l it is = record { column = ap (λ v. (new_of k (Some v) false false).column) is.value; wrong = is.wrong; wide = is.wide }

pub without_default : (def : ColumnDef) (name : Name) → name ≡ def.name → def.default ≡ None → IsColumn def (new_of name def.nullable def.numbered def.kind None false false)
without_default def name same none = rw (same) (subst (λ o. IsColumn (def_of def.name def.nullable def.numbered def.kind o) (new_of def.name def.nullable def.numbered def.kind None false false)) (sym none) (plain def.name def.nullable def.numbered def.kind))

pub with_default : (def : ColumnDef) (name : Name) (l : Literal) (it : Stated) → name ≡ def.name → def.default ≡ Some l → IsStated (into_kind l def.kind) it → IsColumn def (new_of name def.nullable def.numbered def.kind (Some it.value) it.is_wrong it.is_wide)
with_default def name l it same some is = rw (same) (subst (λ o. IsColumn (def_of def.name def.nullable def.numbered def.kind o) (new_of def.name def.nullable def.numbered def.kind (Some it.value) it.is_wrong it.is_wide)) (sym some) (given def.name def.nullable def.numbered def.kind l it is))
