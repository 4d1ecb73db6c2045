-- ADD COLUMN and DROP COLUMN.
use Rattle.std.proofs.Common.{ap, sym, ◌∙◌}
use Rattle.std.specs.List.{list_all, list_any}
use Rattle.std.specs.Prelude.{Bool, List, [], cond, false, map, not, refl, true, ◌&&◌, ◌++◌, ◌||◌, ◌∷◌, ◌≡◌}
use Rattle.lq_base.specs.Name.{is_named}
use Rattle.lq_base.specs.Value.{is_value_of}
use Rattle.lq_base.specs.declared.dialect.Dialect.{Dialect}
use Rattle.lq_base.specs.declared.name.Name.{Name}
use Rattle.lq_base.specs.declared.value.Value.{Value}
use Rattle.lq_model.specs.Catalogue.{Catalogue, Table, the_table, is_empty, is_in, by_name, has_bad_null, is_null, picked, row_fits, column_lists, has_column}
use Rattle.lq_model.specs.Tables.{add_column, columns_without, drop_column, is_only, row_without, with_column, without_column, is_aimed, is_bound, is_in_foreign, is_shown}
use Rattle.lq_model.specs.Kinds.{column_of, default_value}
use Rattle.lq_model.specs.Plan.{decide}
use Rattle.lq_model.specs.Sound.{IsSound}
use Rattle.lq_model.specs.declared.caller.By.{By}
use Rattle.lq_model.specs.declared.column.Column.{Column}
use Rattle.lq_model.specs.declared.column.ColumnDef.{ColumnDef}
use Rattle.lq_model.proofs.Decide.{here}
use Rattle.lq_model.proofs.Kept.{not_so_true}
use Rattle.lq_model.proofs.Lists.{and_right, any-map, any_less, not_false, or_false, or_left, or_right, other_way, same_name, true_false, whether}
use Rattle.lq_model.proofs.Untouched.{not_in_lists, unused}
use Rattle.lq_decide.specs.Faults.{add_column_faults, no_faults, judged}
use Rattle.lq_decide.proofs.Judge.{judge}
use Rattle.lq_decide.proofs.Lists.{or-false}
use Rattle.lq_decide.proofs.Nulls.{any_agree_all}
use Rattle.lq_decide.proofs.OneTable.{none_loose, old_nulls}
use Rattle.lq_decide.proofs.Touched.{length_mapped, map_mapped, touched_found}

-- a value at the end of a row, of a column at the end
module _ (x : Column) (w : Value) where
  value_stays : (cs : List Column) (row : List Value) (n : Name) → row_fits cs row ≡ true → is_in n (map (λ c. c.name) cs) ≡ true → by_name (cs ++ x ∷ []) (row ++ w ∷ []) n ≡ by_name cs row n
  value_stays [] row n fit there = true_false there refl
  value_stays (c ∷ cs) [] n fit there = true_false fit refl
  value_stays (c ∷ cs) (v ∷ row) n fit there = whether (is_named n c.name)
      (λ is. rw (is) refl)
      (λ other. rw (other) (value_stays cs row n (and_right (is_value_of c.kind v) _ fit) (ap (λ b. b || is_in n (map (λ c. c.name) cs)) (sym other) ∙ there)))

  values_stay : (cs : List Column) (row : List Value) (ns : List Name) → row_fits cs row ≡ true → list_any (λ n. not (is_in n (map (λ c. c.name) cs))) ns ≡ false → picked (cs ++ x ∷ []) ns (row ++ w ∷ []) ≡ picked cs ns row
  values_stay cs row [] fit there = refl
  values_stay cs row (n ∷ ns) fit there =
      ap (λ v. v ∷ map (by_name (cs ++ x ∷ []) (row ++ w ∷ [])) ns) (value_stays cs row n fit (not_false _ (or_left _ _ there)))
      ∙ ap (λ vs. by_name cs row n ∷ vs) (values_stay cs row ns fit (or_right (not (is_in n (map (λ c. c.name) cs))) _ there))

  null_at_end : (cs : List Column) (row : List Value) → row_fits cs row ≡ true → has_bad_null cs row ≡ false → has_bad_null (cs ++ x ∷ []) (row ++ w ∷ []) ≡ (not x.nullable && is_null w)
  null_at_end [] [] fit none = or-false (not x.nullable && is_null w)
  null_at_end [] (v ∷ row) fit none = true_false fit refl
  null_at_end (c ∷ cs) [] fit none = true_false fit refl
  null_at_end (c ∷ cs) (v ∷ row) fit none =
      ap (λ b. b || has_bad_null (cs ++ x ∷ []) (row ++ w ∷ [])) (or_left (not c.nullable && is_null v) _ none)
      ∙ null_at_end cs row (and_right (is_value_of c.kind v) _ fit) (or_right (not c.nullable && is_null v) _ none)

all_or_none : {A : Type 0} (b : Bool) (xs : List A) → list_any (λ x. b) xs ≡ (b && not (is_empty xs))
all_or_none true [] = refl
all_or_none false [] = refl
all_or_none true (x ∷ xs) = refl
all_or_none false (x ∷ xs) = all_or_none false xs

-- a row without the value of a column
module _ (n : Name) where
  value_left : (cs : List Column) (row : List Value) (m : Name) → is_named n m ≡ false → by_name (columns_without n cs) (row_without n cs row) m ≡ by_name cs row m
  value_left [] row m apart = refl
  value_left (c ∷ cs) [] m apart = elim (is_named n c.name) as (λ b. by_name (cond b cs (c ∷ columns_without n cs)) [] m ≡ by_name (c ∷ cs) [] m) [ true ↦ no_value cs m | false ↦ refl ] where
    no_value : (cs : List Column) (m : Name) → by_name cs [] m ≡ by_name (c ∷ cs) [] m
    no_value [] m = refl
    no_value (x ∷ xs) m = refl
  value_left (c ∷ cs) (v ∷ row) m apart = elim (is_named n c.name) as (λ b. is_named n c.name ≡ b → by_name (cond b cs (c ∷ columns_without n cs)) (cond b row (v ∷ row_without n cs row)) m ≡ by_name (c ∷ cs) (v ∷ row) m) [
    | true ↦ λ p. sym (ap (λ b. cond b v (by_name cs row m)) (ap (λ x. is_named m x) (sym (same_name n c.name p)) ∙ other_way n m apart))
    | false ↦ λ p. ap (cond (is_named m c.name) v) (value_left cs row m apart)
  ] refl

  values_left : (cs : List Column) (row : List Value) (ns : List Name) → list_any (is_named n) ns ≡ false → picked (columns_without n cs) ns (row_without n cs row) ≡ picked cs ns row
  values_left cs row [] out = refl
  values_left cs row (m ∷ ns) out =
      ap (λ v. v ∷ map (by_name (columns_without n cs) (row_without n cs row)) ns) (value_left cs row m (or_left (is_named n m) _ out))
      ∙ ap (λ vs. by_name cs row m ∷ vs) (values_left cs row ns (or_right (is_named n m) _ out))

  null_left : (cs : List Column) (row : List Value) → has_bad_null cs row ≡ false → has_bad_null (columns_without n cs) (row_without n cs row) ≡ false
  null_left [] row none = refl
  null_left (c ∷ cs) [] none = elim (is_named n c.name) as (λ b. has_bad_null (cond b cs (c ∷ columns_without n cs)) [] ≡ false) [ true ↦ no_null cs | false ↦ refl ] where
    no_null : (cs : List Column) → has_bad_null cs [] ≡ false
    no_null [] = refl
    no_null (x ∷ xs) = refl
  null_left (c ∷ cs) (v ∷ row) none = elim (is_named n c.name) as (λ b. has_bad_null (cond b cs (c ∷ columns_without n cs)) (cond b row (v ∷ row_without n cs row)) ≡ false) [
    | true ↦ or_right (not c.nullable && is_null v) _ none
    | false ↦ or_false _ _ (or_left (not c.nullable && is_null v) _ none) (null_left cs row (or_right (not c.nullable && is_null v) _ none))
  ]

module _ (by : By) (d : Dialect) (t : Name) (c : Catalogue) (sound : IsSound d c) where
  abbrev it : Table
  it = the_table c t

  pub add_column_judged : (def : ColumnDef) → decide (add_column by d t def c) ≡ judged (add_column by d t def c) (add_column_faults t def c)
  add_column_judged def =
      let x = column_of def in
      let w = default_value x in
      let new = with_column x it in
      let q : Name → Bool = λ m. not (has_column it m) in
      judge (add_column by d t def c) (add_column_faults t def c)
      (λ first. none_loose d c t sound (here c t first.missing) new (λ ns h. h) (λ p h. h))
      (λ free.
      let there = here c t free.missing in
      let fine = sound.tables t it there in
      touched_found d c t sound there new q (unused q d c t sound there (λ m p. not_so_true _ p))
      (λ ns out. map_mapped (picked new.columns ns) (λ r. r ++ w ∷ []) (picked it.columns ns) (row_fits it.columns) it.rows (λ r fit. values_stay x w it.columns r ns fit out) fine.rows)
      _ (length_mapped (λ r. r ++ w ∷ []) it.rows) refl refl (not_in_lists q it (λ m p. not_so_true _ p) d fine)
      (any-map (has_bad_null new.columns) (λ r. r ++ w ∷ []) it.rows
      ∙ any_agree_all _ (λ r. not x.nullable && is_null w) (row_fits it.columns) (has_bad_null it.columns) it.rows (λ r fit none. null_at_end x w it.columns r fit none) fine.rows (old_nulls d c t sound there new)
      ∙ all_or_none (not x.nullable && is_null w) it.rows))

  pub drop_column_judged : (n : Name) → decide (drop_column by d t n c) ≡ judged (drop_column by d t n c) no_faults
  drop_column_judged n =
      let new = without_column n it in
      judge (drop_column by d t n c) no_faults
      (λ first. none_loose d c t sound (here c t (or_left _ _ first.missing)) new (λ ns h. h) (λ p h. h))
      (λ free.
      let there = here c t (or_left _ _ free.missing) in
      let bound : is_bound it n ≡ false = or_left (is_bound it n) _ (or_right (is_shown c t n) _ free.depends) in
      let rest = or_right (is_bound it n) (is_aimed c t n || is_only it.columns) (or_right (is_shown c t n) _ free.depends) in
      touched_found d c t sound there new (is_named n)
      (record { shown = or_left (is_shown c t n) _ free.depends; aimed = or_left (is_aimed c t n) _ rest; own = or_right (list_any (is_in n) (column_lists it)) (is_in_foreign it n) bound })
      (λ ns out. map_mapped (picked new.columns ns) (row_without n it.columns) (picked it.columns ns) (λ r. true) it.rows (λ r h. values_left n it.columns r ns out) (all_true it.rows))
      false (length_mapped (row_without n it.columns) it.rows) refl refl (or_left (list_any (is_in n) (column_lists it)) (is_in_foreign it n) bound)
      (any-map (has_bad_null new.columns) (row_without n it.columns) it.rows ∙ any_less _ (has_bad_null it.columns) it.rows (λ r h. null_left n it.columns r h) (old_nulls d c t sound there new))) where
        all_true : {A : Type 0} (xs : List A) → list_all (λ x. true) xs ≡ true
        all_true [] = refl
        all_true (x ∷ xs) = all_true xs
