-- What changes a column in its place.
use Rattle.std.proofs.Common.{ap, ◌∙◌}
use Rattle.std.specs.List.{list_any}
use Rattle.std.specs.Prelude.{Bool, List, None, Some, [], cond, false, is_none, not, refl, true, ◌||◌, ◌∷◌, ◌≡◌}
use Rattle.lq_base.specs.Name.{is_named}
use Rattle.lq_base.specs.Value.{into_kind}
use Rattle.lq_base.specs.declared.dialect.Dialect.{Dialect}
use Rattle.lq_base.specs.declared.kind.Kind.{Kind}
use Rattle.lq_base.specs.declared.literal.Literal.{Literal}
use Rattle.lq_base.specs.declared.name.Name.{Name}
use Rattle.lq_model.specs.Catalogue.{Catalogue, Table, table_of, the_table, with_table, has_bad_null, picked, has_column}
use Rattle.lq_model.specs.Tables.{changed_at, drop_default, drop_not_null, made_nullable, modified, modify, set_default, set_not_null, with_changed, with_default}
use Rattle.lq_model.specs.Kinds.{kind_in, value_in}
use Rattle.lq_model.specs.Plan.{decide, is_loose}
use Rattle.lq_model.specs.Sound.{IsSound}
use Rattle.lq_model.specs.declared.caller.By.{By}
use Rattle.lq_model.specs.declared.column.Column.{Column}
use Rattle.lq_model.proofs.Between.{name_kept}
use Rattle.lq_model.proofs.Decide.{here}
use Rattle.lq_model.proofs.Lists.{and_true, any_less, map_same, not_false, or_false, or_left, or_right, other_way, true_false, whether}
use Rattle.lq_decide.specs.Faults.{has_null_in, modify_faults, no_faults, set_not_null_faults, judged}
use Rattle.lq_decide.proofs.Judge.{IsFound, judge}
use Rattle.lq_decide.proofs.Nulls.{by_name_stays, nulls_less, rows_null}
use Rattle.lq_decide.proofs.OneTable.{none_loose, old_nulls, picks}
use Rattle.lq_decide.proofs.SameRows.{same_found, same_twins}

-- a change that keeps the column's name
module _ (d : Dialect) (c : Catalogue) (t n : Name) (f : Column → Column) (named : (x : Column) → (f x).name ≡ x.name) (sound : IsSound d c) where
  abbrev it : Table
  it = the_table c t

  abbrev new : Table
  new = with_changed n f it

  same : (ns : List Name) → picks new ns ≡ picks it ns
  same ns = map_same (picked new.columns ns) (picked it.columns ns) it.rows (λ r. map_same _ _ ns (λ m. by_name_stays (changed_at n f) (name_kept n f named) it.columns r m))

  not_loose : is_none (table_of c t) ≡ false → is_loose (with_table c t new) ≡ false
  not_loose has = none_loose d c t sound (here c t has) new (λ ns h. h) (λ p h. h)

  found : is_none (table_of c t) ≡ false → (nulls : Bool) → list_any (has_bad_null new.columns) it.rows ≡ nulls → IsFound (t ∷ []) (with_table c t new) (record no_faults { nulls = nulls })
  found has nulls is =
      let there = here c t has in
      same_found d c t sound there new same refl false nulls false is (same_twins d c t sound there new same refl (λ p h. h)) (λ p h. h)

  -- where null is allowed as it was
  none_found : is_none (table_of c t) ≡ false → ((x : Column) → x.nullable ≡ true → (f x).nullable ≡ true) → IsFound (t ∷ []) (with_table c t new) no_faults
  none_found has more = found has false (any_less (has_bad_null new.columns) (has_bad_null it.columns) it.rows (λ r h. nulls_less (changed_at n f) at it.columns r h) (old_nulls d c t sound (here c t has) new)) where
    at : (x : Column) → x.nullable ≡ true → (changed_at n f x).nullable ≡ true
    at x h = elim (is_named n x.name) as (λ b. (let y : Column = cond b (f x) x in y).nullable ≡ true) [ true ↦ more x h | false ↦ h ]

  -- where it becomes NOT NULL
  null_found : is_none (table_of c t) ≡ false → has_column it n ≡ true → ((x : Column) → (f x).nullable ≡ false) → IsFound (t ∷ []) (with_table c t new) (record no_faults { nulls = has_null_in it (n ∷ []) })
  null_found has there firm =
      let fine = sound.tables t it (here c t has) in
      found has (has_null_in it (n ∷ [])) (rows_null (changed_at n f) (n ∷ [])
      (λ x h. ap (λ b. (let y : Column = cond b (f x) x in y).nullable) (turned x true h) ∙ firm x)
      (λ x h. ap (λ b. (let y : Column = cond b (f x) x in y).nullable) (turned x false h))
      it.columns it.rows fine.differ (and_true _ _ there refl) fine.rows (old_nulls d c t sound (here c t has) new)) where
        so : (x : Column) → is_named n x.name ≡ false → (is_named x.name n || false) ≡ true → is_named n x.name ≡ true
        so x p h = true_false h (or_false _ _ (other_way n x.name p) refl)

        turned : (x : Column) (b : Bool) → (is_named x.name n || false) ≡ b → is_named n x.name ≡ b
        turned x true h = not_false _ (whether (is_named n x.name) (λ p. ap not p) (λ p. ap not (so x p h)))
        turned x false h = other_way x.name n (or_left (is_named x.name n) _ h)

module _ (by : By) (d : Dialect) (t n : Name) (c : Catalogue) (sound : IsSound d c) where
  pub set_not_null_judged : decide (set_not_null by d t n c) ≡ judged (set_not_null by d t n c) (set_not_null_faults t n c)
  set_not_null_judged =
      let f = made_nullable false in
      judge (set_not_null by d t n c) (set_not_null_faults t n c)
      (λ first. not_loose d c t n f (λ x. refl) sound (or_left _ _ first.missing))
      (λ free. null_found d c t n f (λ x. refl) sound (or_left _ _ free.missing) (not_false _ (or_right _ _ free.missing)) (λ x. refl))

  pub drop_not_null_judged : decide (drop_not_null by d t n c) ≡ judged (drop_not_null by d t n c) no_faults
  drop_not_null_judged =
      let f = made_nullable true in
      judge (drop_not_null by d t n c) no_faults
      (λ first. not_loose d c t n f (λ x. refl) sound (or_left _ _ first.missing))
      (λ free. none_found d c t n f (λ x. refl) sound (or_left _ _ free.missing) (λ x h. refl))

  pub set_default_judged : (l : Literal) → decide (set_default by d t n l c) ≡ judged (set_default by d t n l c) no_faults
  set_default_judged l =
      let f = with_default (Some (value_in (into_kind l (kind_in n (the_table c t).columns)))) in
      judge (set_default by d t n l c) no_faults
      (λ first. not_loose d c t n f (λ x. refl) sound (or_left _ _ first.missing))
      (λ free. none_found d c t n f (λ x. refl) sound (or_left _ _ free.missing) (λ x h. h))

  pub drop_default_judged : decide (drop_default by d t n c) ≡ judged (drop_default by d t n c) no_faults
  drop_default_judged =
      let f = with_default None in
      judge (drop_default by d t n c) no_faults
      (λ first. not_loose d c t n f (λ x. refl) sound (or_left _ _ first.missing))
      (λ free. none_found d c t n f (λ x. refl) sound (or_left _ _ free.missing) (λ x h. h))

  pub modify_judged : (k : Kind) (b : Bool) → decide (modify by d t n k b c) ≡ judged (modify by d t n k b c) (modify_faults t n b c)
  modify_judged k true =
      judge (modify by d t n k true c) no_faults
      (λ first. not_loose d c t n (modified k true) (λ x. refl) sound (or_left _ _ first.missing))
      (λ free. none_found d c t n (modified k true) (λ x. refl) sound (or_left _ _ free.missing) (λ x h. refl))
  modify_judged k false =
      judge (modify by d t n k false c) (modify_faults t n false c)
      (λ first. not_loose d c t n (modified k false) (λ x. refl) sound (or_left _ _ first.missing))
      (λ free. null_found d c t n (modified k false) (λ x. refl) sound (or_left _ _ free.missing) (not_false _ (or_right _ _ free.missing)) (λ x. refl))
