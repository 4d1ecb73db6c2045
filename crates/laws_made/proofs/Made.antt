-- The columns that a createTable of a table states are right, and are its columns.
use Rattle.std.proofs.Common.{ap, arith, subst, sym, ◌∙◌}
use Rattle.std.specs.List.{AllByRecursion, filter, list_all, list_any}
use Rattle.std.specs.Option.{option_map, unwrap_or}
use Rattle.std.specs.Prelude.{Bool, Err, List, None, Ok, Option, Result, Some, [], cond, false, if◌then◌else◌, is_none, is_some, length, map, nat_le, not, refl, true, ℕ, ◌&&◌, ◌||◌, ◌∷◌, ◌≡◌}
use Rattle.lq_base.specs.Value.{into_kind, is_value_of}
use Rattle.lq_base.specs.declared.dialect.Dialect.{Dialect}
use Rattle.lq_base.specs.declared.literal.Literal.{Literal}
use Rattle.lq_base.specs.declared.literal.Literal.TheVariants as literal
use Rattle.lq_base.specs.declared.kind.Kind.{Kind}
use Rattle.lq_base.specs.declared.kind.Kind.TheVariants as kind
use Rattle.lq_base.specs.declared.reason.Reason.{Reason}
use Rattle.lq_base.specs.declared.value.Value.{Value}
use Rattle.lq_base.specs.declared.value.Value.TheVariants as value
use Rattle.lq_model.proofs.Lists.{and_left, and_right, or_false}
use Rattle.lq_model.specs.Catalogue.{Table, repeats}
use Rattle.lq_model.specs.Tables.{depends_in, numbers_wrongly, repeats_number}
use Rattle.lq_model.specs.Kinds.{is_number, is_wide, is_wrong, literal_of}
use Rattle.lq_model.specs.Sound.{default_fits, is_key_of, is_numbered_well}
use Rattle.lq_model.specs.declared.column.Column.{Column}
use Rattle.lq_model.specs.declared.column.ColumnDef.{ColumnDef}
use Rattle.lq_model.specs.declared.constraint.Key.{Key}
use Rattle.lq_tree.specs.Values.{literal_of as stated}
use Rattle.lq_tables.specs.CreateTable.{def_of}
use Rattle.laws_made.specs.CreatedAs.{column_of, given_of, IsWritten}
use Rattle.laws_made.proofs.Defaults.{goes}
use Rattle.laws_stages.proofs.OneNumber.{one_number}

abbrev pub defs_of : Dialect → Option Key → List Column → List ColumnDef
defs_of d key cs = map def_of (map (column_of d key) cs)

same_found : {x y : Result Value Reason} → (let o : Option (Result Value Reason) = Some x in o) ≡ Some y → x ≡ y
same_found e = Prim.cc

no_way : (a : Bool) → (a && false) ≡ true → ⊥
no_way true q = Prim.cc
no_way false q = Prim.cc

null_goes : (k : Kind) → into_kind literal.Null k ≡ Ok value.Null
unfolding into_kind
null_goes kind.Int = refl
null_goes kind.BigInt = refl
null_goes kind.Boolean = refl
null_goes (kind.Varchar most) = refl
null_goes kind.Text = refl
null_goes kind.Moment = refl
null_goes (kind.Decimal digits scale) = refl

-- a default that can be written goes into its kind; none goes as a null
goes_in : (k : Kind) (o : Option Value) → is_value_of k (unwrap_or o value.Null) ≡ true → IsWritten o → (v : Value) × (into_kind (unwrap_or (option_map stated (given_of o)) literal.Null) k ≡ Ok v)
goes_in k None h w = (value.Null, null_goes k)
goes_in k (Some v) h w = (v, by (option_map stated (given_of (Some v))) (goes k v h w)) where
  by : (o : Option Literal) → option_map (λ l. into_kind l k) o ≡ Some (Ok v) → into_kind (unwrap_or o literal.Null) k ≡ Ok v
  by None e = absurd Prim.cc
  by (Some l) e = same_found e

pub none_wrong : (d : Dialect) (key : Option Key) (cs : List Column) → list_all default_fits cs ≡ true → AllByRecursion (λ (c : Column). IsWritten c.default) cs → list_any (λ (x : ColumnDef). is_wrong (into_kind (literal_of x) x.kind)) (defs_of d key cs) ≡ false
none_wrong d key [] h w = refl
none_wrong d key (c ∷ cs) h w = or_false _ _ (ap is_wrong (goes_in c.kind c.default (and_left (default_fits c) _ h) w.0).1) (none_wrong d key cs (and_right (default_fits c) _ h) w.1)

pub none_wide : (d : Dialect) (key : Option Key) (cs : List Column) → list_all default_fits cs ≡ true → AllByRecursion (λ (c : Column). IsWritten c.default) cs → list_any (λ (x : ColumnDef). is_wide (into_kind (literal_of x) x.kind)) (defs_of d key cs) ≡ false
none_wide d key [] h w = refl
none_wide d key (c ∷ cs) h w = or_false _ _ (ap is_wide (goes_in c.kind c.default (and_left (default_fits c) _ h) w.0).1) (none_wide d key cs (and_right (default_fits c) _ h) w.1)

-- a numbered column has no default, is of a number's kind and is the key's only column
numbers_right : (d : Dialect) (key : Option Key) (c : Column) → (not c.numbered || (is_number c.kind && (is_none c.default && is_key_of key c.name))) ≡ true
    → (depends_in key (def_of (column_of d key c)) ≡ false) × (numbers_wrongly (def_of (column_of d key c)) ≡ false)
numbers_right d key c h = by c.numbered c.default refl refl h where
  by : (b : Bool) (o : Option Value) → c.numbered ≡ b → c.default ≡ o → (not b || (is_number c.kind && (is_none o && is_key_of key c.name))) ≡ true → (depends_in key (def_of (column_of d key c)) ≡ false) × (numbers_wrongly (def_of (column_of d key c)) ≡ false)
  by false o is has g = (rw is refl, rw is refl)
  by true (Some v) is has g = absurd (no_way (is_number c.kind) g)
  by true None is has g = (rw (is, has, and_right (is_number c.kind) _ g) refl, rw (is, and_left (is_number c.kind) _ g) refl)

pub none_depends : (d : Dialect) (key : Option Key) (cs : List Column) → list_all (λ (c : Column). not c.numbered || (is_number c.kind && (is_none c.default && is_key_of key c.name))) cs ≡ true → list_any (depends_in key) (defs_of d key cs) ≡ false
none_depends d key [] h = refl
none_depends d key (c ∷ cs) h = or_false _ _ (numbers_right d key c (and_left _ _ h)).0 (none_depends d key cs (and_right _ _ h))

pub numbers_are_right : (d : Dialect) (key : Option Key) (cs : List Column) → list_all (λ (c : Column). not c.numbered || (is_number c.kind && (is_none c.default && is_key_of key c.name))) cs ≡ true → list_any numbers_wrongly (defs_of d key cs) ≡ false
numbers_are_right d key [] h = refl
numbers_are_right d key (c ∷ cs) h = or_false _ _ (numbers_right d key c (and_left _ _ h)).1 (numbers_are_right d key cs (and_right _ _ h))

counted_step : (b : Bool) (x : ColumnDef) (c : Column) (xs : List ColumnDef) (cs : List Column) → x.numbered ≡ c.numbered → length (filter (λ (x : ColumnDef). x.numbered) xs) ≡ length (filter (λ (c : Column). c.numbered) cs)
    → c.numbered ≡ b → length (filter (λ (x : ColumnDef). x.numbered) (x ∷ xs)) ≡ length (filter (λ (c : Column). c.numbered) (c ∷ cs))
counted_step true x c xs cs same rest is = rw (same, is) (let r = rest in omega (arith, r))
counted_step false x c xs cs same rest is = rw (same, is) rest

pub numbered_is : (b : Bool) → unwrap_or (if b then Some true else None) false ≡ b
numbered_is true = refl
numbered_is false = refl

as_many : (d : Dialect) (key : Option Key) (cs : List Column) → length (filter (λ (x : ColumnDef). x.numbered) (defs_of d key cs)) ≡ length (filter (λ (c : Column). c.numbered) cs)
as_many d key [] = refl
as_many d key (c ∷ cs) = counted_step c.numbered (def_of (column_of d key c)) c (defs_of d key cs) cs (numbered_is c.numbered) (as_many d key cs) refl

pub one_at_most : (d : Dialect) (it : Table) (cs : List Column) → repeats (map (λ (c : Column). c.name) cs) ≡ false → list_all (is_numbered_well it) cs ≡ true → repeats_number (defs_of d it.key cs) ≡ false
one_at_most d it cs apart h = ap not (ap (λ n. nat_le n 1) (as_many d it.key cs) ∙ one_number it cs apart h)
