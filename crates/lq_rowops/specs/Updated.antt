-- What UPDATE is tested for on a sound catalogue: first what it says, then the rows after it.
use Rattle.std.specs.List.{filter, list_any}
use Rattle.std.specs.Prelude.{Bool, List, Option, [], false, is_none, length, map, ◌&&◌, ◌||◌, ◌∷◌, ◌≡◌}
use Rattle.lq_arm.specs.declared.tests.Tests.{Tests}
use Rattle.lq_base.specs.declared.literal.Literal.{Literal}
use Rattle.lq_base.specs.declared.name.Name.{Name}
use Rattle.lq_decide.specs.Faults.{names_set, set_child}
use Rattle.lq_model.specs.Catalogue.{Catalogue, Table, column_missing, has_bad_null, repeats, table_of, the_table}
use Rattle.lq_model.specs.Comparison.{compares_wrongly}
use Rattle.lq_model.specs.Kinds.{is_wide, is_wrong}
use Rattle.lq_model.specs.NameSpaces.{is_reserved}
use Rattle.lq_model.specs.Plan.{unique_lists}
use Rattle.lq_model.specs.Rows.{set_all, set_value_of}
use Rattle.lq_model.specs.Truth.{names_in, takes}
use Rattle.lq_model.specs.declared.caller.By.{By}
use Rattle.lq_model.specs.declared.test.Test.{Test}
use Rattle.lq_rowops.specs.InsertTests.{edit, loses, set_twins, strays, value_set}
use Rattle.lq_rowops.specs.declared.changing.Changes.{Changes}
use Rattle.lq_rowops.specs.declared.changing.NewRows.{NewRows}
use Rattle.lq_rowops.specs.declared.updating.Stated.{Stated}

abbrev pub no_tests : Tests
no_tests = record { reserved = false; missing = false; exists = false; depends = false; wrong = false; wide = false; nulls = false; twins = false; orphans = false; children = false; full = false }

-- what the statement says
abbrev pub stated_tests : By → Name → List (Name × Literal) → Option Test → Catalogue → Tests
stated_tests by t sets test c =
    let it = the_table c t in
    record no_tests {
      reserved = is_reserved by (t ∷ []);
      missing = is_none (table_of c t) || (column_missing it (names_set sets) || column_missing it (names_in test));
      exists = repeats (names_set sets);
      wrong = list_any (λ s. is_wrong (set_value_of it.columns s)) sets || compares_wrongly it.columns test;
      wide = list_any (λ s. is_wide (set_value_of it.columns s)) sets;
    }

-- what is asked of the table after it, where it is known whether a new row has a bad null or no parent
abbrev pub result_tests : Name → List (Name × Literal) → Bool → Bool → Table → Catalogue → Tests
result_tests t sets nulls stray new after = record no_tests {
  nulls = nulls;
  twins = list_any (set_twins sets new) (unique_lists new);
  orphans = stray || list_any (loses t sets after new.columns new.rows) new.foreign;
  children = list_any (set_child t sets after after) after.tables;
}

pub record IsStated (by : By) (t : Name) (sets : List (Name × Literal)) (test : Option Test) (c : Catalogue) (stated : Stated) : Type 0 where
  pub tests : stated.tests ≡ stated_tests by t sets test c
  pub values : stated.values ≡ map (value_set (the_table c t).columns) sets

-- the new rows, how many they are, and whether one has a null in a NOT NULL column
pub record AreNewRows (sets : List (Name × Literal)) (test : Option Test) (it : Table) (new : NewRows) : Type 0 where
  pub rows : new.rows.items ≡ map (edit sets test it.columns) it.rows
  pub count : new.count ≡ length (filter (takes test it.columns) it.rows)
  pub nulls : new.has_null ≡ list_any (λ r. takes test it.columns r && has_bad_null it.columns (set_all sets it.columns r)) it.rows

-- the same without the rows, and whether one has no parent by a foreign key that is asked before the change
pub record AreChanges (t : Name) (sets : List (Name × Literal)) (test : Option Test) (c : Catalogue) (changes : Changes) : Type 0 where
  pub count : changes.count ≡ length (filter (takes test (the_table c t).columns) (the_table c t).rows)
  pub nulls : changes.has_null ≡ list_any (λ r. takes test (the_table c t).columns r && has_bad_null (the_table c t).columns (set_all sets (the_table c t).columns r)) (the_table c t).rows
  pub stray : changes.is_stray ≡ list_any (strays t sets (map (edit sets test (the_table c t).columns) (the_table c t).rows) c (the_table c t).columns) (the_table c t).foreign
