-- That what is stated of columns can be written in statements, and that a reference's text tells it.
use Rattle.std.proofs.Common.{ap, sym, ◌∙◌}
use Rattle.std.specs.Option.{unwrap_or}
use Rattle.std.specs.Prelude.{Bool, List, None, Option, Some, [], false, if◌then◌else◌, refl, true, ℕ, ◌∷◌, ◌≡◌}
use Rattle.lq_base.proofs.BesideLemmas.{renamed}
use Rattle.lq_base.specs.Name.{is_name, is_name_key, is_named, is_object}
use Rattle.lq_base.specs.Number.{if_there}
use Rattle.lq_base.specs.declared.dialect.Dialect.{Dialect}
use Rattle.lq_base.specs.declared.dialect.Dialect.TheVariants.{Postgresql}
use Rattle.lq_base.specs.declared.name.Name.{Name}
use Rattle.lq_model.proofs.DefaultNames.{default_named}
use Rattle.lq_model.proofs.Lists.{and_left, and_right, and_true, named_itself, same_name}
use Rattle.lq_model.proofs.Told.{text_told}
use Rattle.lq_model.specs.Changes.{text}
use Rattle.lq_model.specs.Sound.{unique_name}
use Rattle.lq_model.specs.Step.{is_foreign, is_unique}
use Rattle.lq_model.specs.declared.table_item.Target.{Target}
use Rattle.lq_tables.specs.Constraints.{foreign_stated, is_reference, is_same_target, is_target, target_of, unique_stated}
use Rattle.lq_tables.specs.declared.constraints.Reference.{Reference}

pub default_unique : (t n : Name) → is_name_key t ≡ true → is_name n ≡ true → is_name (unique_name t (n ∷ [])) ≡ true
default_unique t n h k = (default_named Postgresql t (n ∷ []) h (and_true (is_name n) true k refl)).1

pub unique_spelled : (t n : Name) (unique : Option Bool) (name : Option Name) → is_name_key t ≡ true → is_name n ≡ true → if_there is_name name ≡ true → if_there is_unique (unique_stated t n unique name) ≡ true
unique_spelled t n unique name h k g = by (unwrap_or unique false) name g where
  by : (b : Bool) (name : Option Name) → if_there is_name name ≡ true → if_there is_unique (if b then Some (record { name = unwrap_or name (unique_name t (n ∷ [])); columns = n ∷ [] }) else None) ≡ true
  by false name g = refl
  by true None g = rw (default_unique t n h k, k) refl
  by true (Some m) g = rw (g, k) refl

pub foreign_spelled : (d : Dialect) (t n : Name) (references : Option Reference) (name : Option Name) → is_object d t ≡ true → is_name n ≡ true → if_there is_reference references ≡ true → if_there is_name name ≡ true → if_there (is_foreign d) (foreign_stated t n references name) ≡ true
foreign_spelled d t n None name o k r g = refl
foreign_spelled d t n (Some r) None o k h g = refl
foreign_spelled d t n (Some r) (Some m) o k h g =
    let fine = and_right (is_same_target r.target (target_of r.text)) _ h in
    let to = renamed d t r.target.table o (and_left (is_name r.target.table) _ fine) in
    rw (g, k, to.object, and_right (is_name r.target.table) _ fine) refl

same_target : (x y : Target) → x.table ≡ y.table → x.column ≡ y.column → x ≡ y
same_target x y a b = rw (a, b) refl

same_reference : (x y : Reference) → x.text ≡ y.text → x.target ≡ y.target → x ≡ y
same_reference x y a b = rw (a, b) refl

target_told : (x y : Target) (o : Option Target) → is_same_target x o ≡ true → is_same_target y o ≡ true → x ≡ y
target_told x y None g h = absurd Prim.cc
target_told x y (Some z) g h = same_target x y
    (sym (same_name z.table x.table (and_left (is_named z.table x.table) _ g)) ∙ same_name z.table y.table (and_left (is_named z.table y.table) _ h))
    (sym (same_name z.column x.column (and_right (is_named z.table x.table) _ g)) ∙ same_name z.column y.column (and_right (is_named z.table y.table) _ h))

-- a reference is told by its text
pub reference_told : (x y : Reference) → is_reference x ≡ true → is_reference y ≡ true → text x.text ≡ text y.text → x ≡ y
reference_told x y g h e =
    let is : x.text ≡ y.text = text_told (ap (λ v. Some v) e) in
    same_reference x y is
    (target_told x.target y.target (target_of y.text)
    (ap (λ t. is_same_target x.target (target_of t)) (sym is) ∙ and_left (is_same_target x.target (target_of x.text)) _ g)
    (and_left (is_same_target y.target (target_of y.text)) _ h))

-- what a text states is a reference
pub found_fits : (t : List ℕ) (to : Target) → target_of t ≡ Some to → is_target to ≡ true → is_reference (record { text = t; target = to }) ≡ true
found_fits t to found fits =
    and_true (is_same_target to (target_of t)) (is_target to)
    (ap (is_same_target to) found ∙ and_true (is_named to.table to.table) (is_named to.column to.column) (named_itself to.table) (named_itself to.column)) fits
