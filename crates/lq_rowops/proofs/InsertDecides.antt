-- On a sound catalogue a new row is tested by its own values alone.
use Rattle.std.proofs.Common.{◌∙◌, ap, sym}
use Rattle.std.specs.List.{list_any}
use Rattle.std.specs.Prelude.{Bool, Err, List, None, Ok, Result, [], false, is_none, length, map, nat_le, not, refl, suc, true, ℕ, ◌&&◌, ◌++◌, ◌==◌, ◌||◌, ◌∷◌, ◌≡◌}
use Rattle.lq_base.specs.Name.{is_named}
use Rattle.lq_base.specs.declared.dialect.Dialect.{Dialect}
use Rattle.lq_base.specs.declared.literal.Literal.{Literal}
use Rattle.lq_base.specs.declared.reason.Reason.{Reason}
use Rattle.lq_base.specs.declared.reason.Reason.TheVariants as reason
use Rattle.lq_model.specs.Plan.{unless, decide, most_rows, is_twin}
use Rattle.lq_model.specs.declared.caller.By.{By}
use Rattle.lq_model.specs.declared.caller.By.TheVariants.{Program}
use Rattle.lq_base.specs.declared.name.Name.{Name}
use Rattle.lq_base.specs.declared.value.Value.{Value}
use Rattle.lq_model.specs.Catalogue.{Catalogue, Table, table_of, the_table, with_table, repeats, column_missing, has_bad_null, is_null, picked, same_values}
use Rattle.lq_model.specs.Rows.{insert, next_of, stated, row_of}
use Rattle.lq_model.specs.Kinds.{is_wide, is_wrong, value_in}
use Rattle.lq_model.specs.NameSpaces.{is_reserved}
use Rattle.lq_model.specs.Sound.{IsSound}
use Rattle.lq_model.specs.declared.column.Column.{Column}
use Rattle.lq_model.specs.declared.constraint.ForeignKey.{ForeignKey}
use Rattle.lq_decide.specs.Faults.{insert_faults, is_orphan, lacks_parent_of, judged}
use Rattle.lq_decide.proofs.Inserted.{insert_judged}
use Rattle.lq_rowops.specs.InsertTests.{inserted, new_row}
use Rattle.lq_rows.specs.Stored.{has_values_in}

or-false : (b : Bool) → (b || false) ≡ b
or-false true = refl
or-false false = refl

-- what a new row is tested for is what an INSERT that names no tracking table is judged by
tests_are : (by : By) (d : Dialect) (t : Name) (ns : List Name) (ls : List Literal) (c : Catalogue) → is_reserved by (t ∷ []) ≡ false → judged (insert by d t ns ls c) (insert_faults t ns ls c) ≡ inserted Program d t ns ls c
unfolding judged inserted
tests_are by d t ns ls c may = rw (may) refl

pub insert_decides : (by : By) (d : Dialect) (t : Name) (ns : List Name) (ls : List Literal) (c : Catalogue) → IsSound d c → is_reserved by (t ∷ []) ≡ false → decide (insert by d t ns ls c) ≡ inserted Program d t ns ls c
insert_decides by d t ns ls c sound may = insert_judged by d t ns ls c sound ∙ tests_are by d t ns ls c may

pub insert_reserved : (by : By) (d : Dialect) (t : Name) (ns : List Name) (ls : List Literal) (c : Catalogue) → is_reserved by (t ∷ []) ≡ true → decide (insert by d t ns ls c) ≡ Err reason.Reserved
unfolding decide
insert_reserved by d t ns ls c is = rw (is) refl

any_of : (own : List Value) (cs : List Column) (ns : List Name) (rows : List (List Value)) → list_any (same_values own) (map (picked cs ns) rows) ≡ list_any (λ r. same_values own (picked cs ns r)) rows
any_of own cs ns [] = refl
any_of own cs ns (r ∷ rows) = ap (λ b. same_values own (picked cs ns r) || b) (any_of own cs ns rows)

-- a row without a null that is not its own parent lacks one where the target has no such row
pub lacks_is : (c : Catalogue) (t : Name) (it : Table) (row : List Value) (f : ForeignKey) (found : Bool) → list_any is_null (picked it.columns f.columns row) ≡ false
    → (is_named t f.table && same_values (picked it.columns f.columns row) (picked it.columns f.targets row)) ≡ false → found ≡ has_values_in f.targets (picked it.columns f.columns row) (the_table c f.table) → not found ≡ lacks_parent_of c t it row f
lacks_is c t it row f found no_null own is = rw (no_null, own, is, any_of (picked it.columns f.columns row) (the_table c f.table).columns f.targets (the_table c f.table).rows) (ap not (sym (or-false _)))

pub lacks_by : (c : Catalogue) (t : Name) (it : Table) (row : List Value) (f : ForeignKey) (found : Bool) (cs : List Column) (own : List Value) → cs ≡ it.columns → own ≡ picked cs f.columns row → list_any is_null own ≡ false
    → (is_named t f.table && same_values own (picked cs f.targets row)) ≡ false → found ≡ has_values_in f.targets own (the_table c f.table) → not found ≡ lacks_parent_of c t it row f
lacks_by c t it row f found cs own same are no_null not_own is =
    let by : own ≡ picked it.columns f.columns row = are ∙ ap (λ ds. picked ds f.columns row) same in
    lacks_is c t it row f found (ap (list_any is_null) (sym by) ∙ no_null)
    (ap (λ o. is_named t f.table && same_values o (picked it.columns f.targets row)) (sym by) ∙ ap (λ ds. is_named t f.table && same_values own (picked ds f.targets row)) (sym same) ∙ not_own)
    (is ∙ ap (λ o. has_values_in f.targets o (the_table c f.table)) by)

-- the tests in their order

module _ (d : Dialect) (t : Name) (ns : List Name) (ls : List Literal) (c : Catalogue) where
  pub insert_none : table_of c t ≡ None → inserted Program d t ns ls c ≡ Err reason.Missing
  unfolding inserted
  insert_none is = let gone : is_none (table_of c t) ≡ true = ap is_none is in rw (gone) refl

  first_five : (a b e f g : Bool) (h : List (Bool × Reason)) (row : List Value) (r : Reason) (x : Catalogue × ℕ)
      → (let five : Result (List Value) Reason = unless ((a, reason.Missing) ∷ (b, reason.Exists) ∷ (e, reason.WrongKind) ∷ (f, reason.TooWide) ∷ (g, reason.NullFound) ∷ []) row in five) ≡ Err r
      → unless ((a, reason.Missing) ∷ (b, reason.Exists) ∷ (e, reason.WrongKind) ∷ (f, reason.TooWide) ∷ (g, reason.NullFound) ∷ h) x ≡ Err r
  first_five true b e f g h row r x is = Prim.cc
  first_five false true e f g h row r x is = Prim.cc
  first_five false false true f g h row r x is = Prim.cc
  first_five false false false true g h row r x is = Prim.cc
  first_five false false false false true h row r x is = Prim.cc
  first_five false false false false false h row r x is = absurd (Prim.cc is)

  none_of_five : (a b e f g : Bool) (h : List (Bool × Reason)) (row made : List Value) (x : Catalogue × ℕ)
      → (let five : Result (List Value) Reason = unless ((a, reason.Missing) ∷ (b, reason.Exists) ∷ (e, reason.WrongKind) ∷ (f, reason.TooWide) ∷ (g, reason.NullFound) ∷ []) row in five) ≡ Ok made
      → (unless ((a, reason.Missing) ∷ (b, reason.Exists) ∷ (e, reason.WrongKind) ∷ (f, reason.TooWide) ∷ (g, reason.NullFound) ∷ h) x ≡ unless h x) × (row ≡ made)
  none_of_five true b e f g h row made x is = absurd (Prim.cc is)
  none_of_five false true e f g h row made x is = absurd (Prim.cc is)
  none_of_five false false true f g h row made x is = absurd (Prim.cc is)
  none_of_five false false false true g h row made x is = absurd (Prim.cc is)
  none_of_five false false false false true h row made x is = absurd (Prim.cc is)
  none_of_five false false false false false h row made x is = (refl, Prim.cc)

  abbrev made : Table → List Value
  made it = map value_in (row_of (stated it ns) ls it)

  abbrev rest_of : Table → List Value → List (Bool × Reason)
  rest_of it row = (is_twin it row, reason.Duplicate) ∷ (is_orphan c t it row, reason.NoParent) ∷ (not (nat_le (suc (length it.rows)) most_rows), reason.TooManyRows) ∷ []

  abbrev done : Table → List Value → Catalogue × ℕ
  done it row = (with_table c t (record it { rows = it.rows ++ row ∷ []; next = next_of d (stated it ns) it.columns row it.next }), 1)

  pub insert_bad : (r : Reason) → is_none (table_of c t) ≡ false → new_row (the_table c t) ns ls ≡ Err r → inserted Program d t ns ls c ≡ Err r
  unfolding inserted new_row
  insert_bad r there is =
      let it = the_table c t in
      rw (there) (first_five (column_missing it ns) (repeats ns) (not (length (stated it ns) == length ls) || list_any is_wrong (row_of (stated it ns) ls it)) (list_any is_wide (row_of (stated it ns) ls it)) (has_bad_null it.columns (made it)) (rest_of it (made it)) (made it) r (done it (made it)) is)

  pub insert_row : (row : List Value) → is_none (table_of c t) ≡ false → new_row (the_table c t) ns ls ≡ Ok row → inserted Program d t ns ls c ≡ unless (rest_of (the_table c t) row) (done (the_table c t) row)
  unfolding inserted new_row
  insert_row row there is =
      let it = the_table c t in
      let five = none_of_five (column_missing it ns) (repeats ns) (not (length (stated it ns) == length ls) || list_any is_wrong (row_of (stated it ns) ls it)) (list_any is_wide (row_of (stated it ns) ls it)) (has_bad_null it.columns (made it)) (rest_of it (made it)) (made it) row (done it (made it)) is in
      rw (there) five.0 ∙ ap (λ r. unless (rest_of it r) (done it r)) five.1

  pub insert_twin : (row : List Value) → is_none (table_of c t) ≡ false → new_row (the_table c t) ns ls ≡ Ok row → is_twin (the_table c t) row ≡ true → inserted Program d t ns ls c ≡ Err reason.Duplicate
  insert_twin row there is twin = insert_row row there is ∙ rw (twin) refl

  pub insert_orphan : (row : List Value) → is_none (table_of c t) ≡ false → new_row (the_table c t) ns ls ≡ Ok row → is_twin (the_table c t) row ≡ false → is_orphan c t (the_table c t) row ≡ true → inserted Program d t ns ls c ≡ Err reason.NoParent
  insert_orphan row there is twin orphan = insert_row row there is ∙ rw (twin, orphan) refl

  pub insert_full : (row : List Value) → is_none (table_of c t) ≡ false → new_row (the_table c t) ns ls ≡ Ok row → is_twin (the_table c t) row ≡ false → is_orphan c t (the_table c t) row ≡ false
      → not (nat_le (suc (length (the_table c t).rows)) most_rows) ≡ true → inserted Program d t ns ls c ≡ Err reason.TooManyRows
  insert_full row there is twin orphan full = insert_row row there is ∙ rw (twin, orphan, full) refl

  pub insert_done : (row : List Value) → is_none (table_of c t) ≡ false → new_row (the_table c t) ns ls ≡ Ok row → is_twin (the_table c t) row ≡ false → is_orphan c t (the_table c t) row ≡ false
      → not (nat_le (suc (length (the_table c t).rows)) most_rows) ≡ false → inserted Program d t ns ls c ≡ Ok (done (the_table c t) row)
  insert_done row there is twin orphan full = insert_row row there is ∙ rw (twin, orphan, full) refl
