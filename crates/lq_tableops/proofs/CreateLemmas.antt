-- What CREATE TABLE is asked.
use Rattle.std.proofs.Common.{Bool, List, [], ap, false, map, refl, sym, true, ◌++◌, ◌∙◌, ◌∷◌, ◌≡◌, ◌||◌}
use Rattle.std.specs.List.{list_any}
use Rattle.std.specs.Prelude.{None, Ok, Option, Result}
use Rattle.lq_base.specs.Value.{into_kind}
use Rattle.lq_base.specs.declared.dialect.Dialect.{Dialect}
use Rattle.lq_base.specs.declared.name.Name.{Name}
use Rattle.lq_model.specs.Catalogue.{Catalogue, Table, table_of, with_new, constraint_names, inner_names, placed}
use Rattle.lq_model.specs.Tables.{create_table, depends_in, key_column, lacks_own, lists_twice, new_table, numbers_wrongly, repeats_number, target_missing}
use Rattle.lq_model.specs.Kinds.{kinds_differ, column_of, is_wrong, literal_of}
use Rattle.lq_model.specs.NameSpaces.{are_clashing, is_taken, is_reserved, takes_lock_key}
use Rattle.lq_model.specs.declared.caller.By.{By}
use Rattle.lq_model.specs.declared.column.Column.{Column}
use Rattle.lq_model.specs.declared.column.ColumnDef.{ColumnDef}
use Rattle.lq_model.specs.declared.constraint.ForeignKey.{ForeignKey}
use Rattle.lq_model.specs.declared.constraint.Key.{Key}
use Rattle.lq_model.specs.declared.constraint.Unique.{Unique}
use Rattle.lq_model.proofs.Absent.{free_of}
use Rattle.lq_model.proofs.Decide.{none_from_unless}
use Rattle.lq_model.proofs.Lists.{map-map, or_left}
use Rattle.lq_decide.specs.Faults.{create_table_faults, misses_new}
use Rattle.lq_rows.specs.Stored.{Means, Stored, stored, table_as}
use Rattle.lq_rows.specs.declared.shape.Shape.{Shape}
use Rattle.lq_rows.specs.declared.fault.RunFault.{RunFault}
use Rattle.lq_arm.specs.Verdict.{listed, tests_of, verdict_of}
use Rattle.lq_arm.specs.declared.tests.Tests.{Tests}
use Rattle.lq_arm.proofs.Arms.{agree, good}
use Rattle.lq_shapes.specs.Created.{IsDefined, made, shape_with}
use Rattle.lq_shapes.specs.declared.new_table.Defined.{Defined}
use Rattle.lq_tableops.specs.Aimed.{AreAims}
use Rattle.lq_tableops.specs.declared.aims.Aim.{Aim}

grouped : (a b x y : Bool) → ((a || b) || (x || y)) ≡ (a || (b || (x || y)))
grouped true b x y = refl
grouped false b x y = refl

module _ (by : By) (d : Dialect) (t : Name) (defs : List ColumnDef) (key : Option Key) (us : List Unique) (fs : List ForeignKey) (c : Catalogue) where
  abbrev it_of : List Column → Table
  it_of cs = made cs key us fs

  -- the columns that were made are those of the new table
  pub columns_are : (it : Defined) → IsDefined key defs it → it.columns ≡ map (key_column key) (map column_of defs)
  columns_are it is = is.columns ∙ sym (map-map (key_column key) column_of defs)

  pub create_tests_are : (it : Defined) (aims : Aim) (tests : Tests) (clash lock twice : Bool) → IsDefined key defs it → AreAims t (it_of it.columns) c fs aims
      → tests.reserved ≡ is_reserved by (t ∷ constraint_names (it_of it.columns) ++ map (λ f. f.table) fs)
      → tests.missing ≡ (lacks_own (it_of it.columns) || aims.missing)
      → clash ≡ (is_taken d t c || are_clashing d t (it_of it.columns) c) → lock ≡ takes_lock_key by d (t ∷ placed t (inner_names (it_of it.columns))) → twice ≡ lists_twice (it_of it.columns)
      → tests.exists ≡ (clash || (lock || twice))
      → tests.depends ≡ (list_any (depends_in key) defs || aims.loose)
      → tests.wrong ≡ (it.is_wrong || (aims.differ || (list_any numbers_wrongly defs || repeats_number defs)))
      → tests.wide ≡ it.is_wide → tests.nulls ≡ false → tests.twins ≡ false → tests.orphans ≡ false → tests.children ≡ false → tests.full ≡ false
      → verdict_of tests ≡ verdict_of (tests_of (create_table by d t defs key us fs c) (create_table_faults t defs key us fs c))
  create_tests_are it aims tests clash lock twice is are reserved missing clash_is lock_is twice_is exists depends wrong wide nulls twins orphans children full =
      let own : it_of it.columns ≡ new_table defs key us fs = ap it_of (columns_are it is) in
      ap verdict_of (agree
      (reserved ∙ ap (λ x. is_reserved by (t ∷ constraint_names x ++ map (λ f. f.table) fs)) own)
      (missing ∙ ap (λ b. lacks_own (it_of it.columns) || b) are.missing ∙ ap (λ x. lacks_own x || list_any (target_missing (with_new c t x)) fs) own)
      (exists ∙ rw (clash_is, lock_is, twice_is) (grouped (is_taken d t c) (are_clashing d t (it_of it.columns) c) (takes_lock_key by d (t ∷ placed t (inner_names (it_of it.columns)))) (lists_twice (it_of it.columns)))
      ∙ ap (λ x. is_taken d t c || (are_clashing d t x c || (takes_lock_key by d (t ∷ placed t (inner_names x)) || lists_twice x))) own)
      (depends ∙ ap (λ b. list_any (depends_in key) defs || b) are.loose ∙ ap (λ x. list_any (depends_in key) defs || list_any (misses_new t x c) fs) own)
      (wrong ∙ ap (λ b. b || (aims.differ || (list_any numbers_wrongly defs || repeats_number defs))) is.wrong
      ∙ ap (λ b. list_any (λ e. is_wrong (into_kind (literal_of e) e.kind)) defs || (b || (list_any numbers_wrongly defs || repeats_number defs))) are.differ
      ∙ ap (λ x. list_any (λ e. is_wrong (into_kind (literal_of e) e.kind)) defs || (list_any (kinds_differ (with_new c t x) x) fs || (list_any numbers_wrongly defs || repeats_number defs))) own)
      (wide ∙ is.wide) nulls twins orphans children full)

  -- the name is free where the verdict is good
  pub is_free : (tests : Tests) (verdict : Result Unit RunFault) → verdict_of tests ≡ verdict_of (tests_of (create_table by d t defs key us fs c) (create_table_faults t defs key us fs c)) → Means (verdict_of tests) verdict → verdict ≡ Ok tt → table_of c t ≡ None
  unfolding verdict_of
  is_free tests verdict is means at = free_of d t c (or_left (is_taken d t c) _ (none_from_unless (listed (tests_of (create_table by d t defs key us fs c) (create_table_faults t defs key us fs c))) tt tt (sym is ∙ good (verdict_of tests) verdict means at)).0.1.1.0)

  -- what is put at the name is the new table
  pub put_is : (n : Name) (it : Defined) (shape : Shape) (held : Stored) → n ≡ t → IsDefined key defs it → shape ≡ shape_with it.columns key us fs → held ≡ stored (table_as shape 1 []) [] → with_new c n held.now ≡ with_new c t (new_table defs key us fs)
  put_is n it shape held name is shaped holds =
      ap (λ m. with_new c m held.now) name ∙ ap (λ (h : Stored). with_new c t h.now) holds ∙ ap (λ s. with_new c t (table_as s 1 [])) shaped ∙ ap (λ cs. with_new c t (it_of cs)) (columns_are it is)
