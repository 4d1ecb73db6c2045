-- RENAME of a table, or of a view where the name is one's.
use Rattle.std.proofs.Common.{ap, sym, ◌∙◌}
use Rattle.std.proofs.Math.Path.{subst}
use Rattle.std.specs.Prelude.{None, Ok, Option, Some, [], cond, false, is_none, is_some, refl, true, ℕ, ◌&&◌, ◌∷◌, ◌≡◌}
use Rattle.lq_base.specs.Name.{is_beside, is_named, is_object}
use Rattle.lq_base.specs.declared.dialect.Dialect.{Dialect}
use Rattle.lq_base.specs.declared.name.Name.{Name}
use Rattle.lq_model.specs.Catalogue.{Catalogue, Table, View, table_of, view_of}
use Rattle.lq_model.specs.NameSpaces.{is_taken, is_reserved, takes_lock_key}
use Rattle.lq_model.specs.Tables.{rename_table, table_renamed, view_renamed}
use Rattle.lq_model.specs.Sound.{IsSound}
use Rattle.lq_model.specs.Step.{step}
use Rattle.lq_model.specs.declared.caller.By.{By}
use Rattle.lq_model.specs.declared.statement.Statement.TheVariants.{RenameTable}
use Rattle.lq_model.proofs.Absent.{free_of, unviewed}
use Rattle.lq_model.proofs.Decide.{accepted, accepts, here}
use Rattle.lq_model.proofs.Lists.{and_no_right, or_false, or_left, or_right, true_false, whether}
use Rattle.lq_model.proofs.Maps.{at_lookup}
use Rattle.lq_model.proofs.MovedEntries.{moved_none, moved_there}
use Rattle.lq_model.proofs.RenameTables.{renames_back, table_shaped}
use Rattle.lq_model.proofs.Sequences.{some_there, swap_lock, swap_reserved}
use Rattle.lq_model.proofs.Shaped.{IsShaped, keeps}
use Rattle.lq_model.proofs.Views.{none_yet, old_name_free, view_back_is, view_moved, view_renamed_is, view_shaped}

view_if : (o : Option Table) (p : Option View) → (is_none o && is_none p) ≡ false → o ≡ None → is_none p ≡ false
view_if o p h none = ap (λ x. is_none x && is_none p) (sym none) ∙ h

some_if : {X : Type 0} (o : Option X) → is_some o ≡ true → is_none o ≡ false
some_if None h = true_false h refl
some_if (Some x) h = refl

none_here : {X : Type 0} (o : Option X) → is_some o ≡ false → o ≡ None
none_here None h = refl
none_here (Some x) h = true_false refl h

module _ (d : Dialect) (a b : Name) (c : Catalogue) (sound : IsSound d c) (no_table_a : table_of c a ≡ None) (it : View) (there : view_of c a ≡ Some it) (free : is_taken d b c ≡ false) where
  abbrev mid : Catalogue
  mid = view_moved d a b c sound it there free

  no_table_b : table_of c b ≡ None
  no_table_b = free_of d b c free

  either_back : (by : By) → is_reserved by (b ∷ a ∷ []) ≡ false → takes_lock_key by d (b ∷ a ∷ []) ≡ false → step by d (RenameTable b a) (view_renamed a b c) ≡ Ok (c, 0)
  either_back by reserved lock = ap (step by d (RenameTable b a)) (view_renamed_is d a b c sound it there free)
      ∙ accepts d (rename_table by d b a mid) c sound
      (ap (λ o. cond (is_some o) (table_renamed b a mid) (view_renamed b a mid)) no_table_b ∙ view_back_is d a b c sound it there free)
      (record {
        reserved = reserved;
        missing = ap (λ o. is_none (table_of c b) && is_none o) (moved_there c.views a b it sound.ordered_views there (none_yet d a b c sound it there free)) ∙ and_no_right (is_none (table_of c b)) false refl;
        exists = or_false _ _ (old_name_free d a b c sound it there free) lock;
        depends = moved_none c.views a b it sound.ordered_views there (none_yet d a b c sound it there free) (λ v. is_named b v.query.table)
            (at_lookup (is_named a) (λ v. is_named b v.query.table) c.views it (unviewed d c b sound no_table_b) there) (unviewed d c b sound no_table_b);
        wrong = refl;
        wide = refl;
      })

pub rename_table_after : (d : Dialect) (a b : Name) → is_beside a b ≡ true → (by : By) (c e : Catalogue) (k : ℕ) → IsSound d c → step by d (RenameTable a b) c ≡ Ok (e, k) → step by d (RenameTable b a) e ≡ Ok (c, 0)
rename_table_after d a b near by c e k sound made =
    let ok = accepted (rename_table by d a b c) e k made in
    let free = or_left (is_taken d b c) _ ok.exists in
    let lock = swap_lock by d a b (or_right (is_taken d b c) _ ok.exists) in
    let reserved = swap_reserved by a b ok.reserved in
    whether (is_some (table_of c a))
    (λ p. ap (step by d (RenameTable b a)) (sym (ap (λ r. cond r (table_renamed a b c) (view_renamed a b c)) (sym p) ∙ ok.result))
    ∙ renames_back d a b c sound (here c a (some_if (table_of c a) p)) (free_of d b c free) near by reserved lock)
    (λ p.
    let none = none_here (table_of c a) p in
    let it = some_there (view_of c a) (view_if (table_of c a) (view_of c a) ok.missing none) in
    ap (step by d (RenameTable b a)) (sym (ap (λ r. cond r (table_renamed a b c) (view_renamed a b c)) (sym p) ∙ ok.result))
    ∙ either_back d a b c sound none it.0 it.1 free by reserved lock)

pub rename_table_keeps : (by : By) (d : Dialect) (a b : Name) (c e : Catalogue) (k : ℕ) → is_object d b ≡ true → is_beside a b ≡ true → IsSound d c → step by d (RenameTable a b) c ≡ Ok (e, k) → IsSound d e
rename_table_keeps by d a b c e k object near sound made =
    let p' = rename_table by d a b c in
    let ok = accepted p' e k made in
    let free = or_left (is_taken d b c) _ ok.exists in
    keeps d p' e k made (whether (is_some (table_of c a))
    (λ p. subst (IsShaped d) (ap (λ r. cond r (table_renamed a b c) (view_renamed a b c)) (sym p)) (table_shaped d a b c sound (here c a (some_if (table_of c a) p)) (free_of d b c free) near object free ok.depends))
    (λ p.
    let none = none_here (table_of c a) p in
    let it = some_there (view_of c a) (view_if (table_of c a) (view_of c a) ok.missing none) in
    subst (IsShaped d) (ap (λ r. cond r (table_renamed a b c) (view_renamed a b c)) (sym p)) (view_shaped d a b c sound it.0 it.1 free object)))
