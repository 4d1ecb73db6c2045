-- update: rows of a table get other values.
use Rattle.std.proofs.Common.{ap}
use Rattle.std.specs.Option.{option_map}
use Rattle.std.specs.Prelude.{Bool, List, None, Option, Result, Some, [], codes, refl, true, ◌&&◌, ◌∷◌, ◌≡◌}
use Rattle.lq_base.proofs.BesideLemmas.{object_of_name}
use Rattle.lq_base.specs.Name.{is_name}
use Rattle.lq_base.specs.Number.{if_there}
use Rattle.lq_base.specs.declared.dialect.Dialect.{Dialect}
use Rattle.lq_base.specs.declared.reason.Reason.{Reason}
use Rattle.lq_data.specs.ColumnValue.{column_rows, column_value, is_column_value, sets_of}
use Rattle.lq_data.specs.ColumnValueLaws.{columns_told, set_literals_right, set_names_right, some_sets}
use Rattle.lq_data.specs.GivenTestLaws.{test_told, where_right}
use Rattle.lq_data.specs.Sql.{given_text, is_test, test_of, where_keys}
use Rattle.lq_data.specs.declared.update.Update.{Update}
use Rattle.lq_model.proofs.Effects.{does_so, one_becomes, restores_so}
use Rattle.lq_model.proofs.Lists.{and_left, and_right}
use Rattle.lq_model.proofs.Told.{keys_told, text_told}
use Rattle.lq_model.specs.Catalogue.{Catalogue, the_table, with_table}
use Rattle.lq_model.specs.Changes.{AreReturns, AreStatements, AreTold, CanonicalChange, HaveEffect, TakeBack, list, text}
use Rattle.lq_model.specs.Effect.{Becomes, GoesBack, effect_of}
use Rattle.lq_model.specs.Rows.{edited}
use Rattle.lq_model.specs.TakesBack.{Row, change_of, maps, nth_value}
use Rattle.lq_model.specs.declared.statement.Statement.{Statement}
use Rattle.lq_model.specs.declared.statement.Statement.TheVariants as statement
use Rattle.lq_tree.specs.Given.{a_name}
use Rattle.lq_tree.specs.Items.{a_column, are_some, required_items}
use Rattle.lq_tree.specs.Keys.{Keys, a_change, fields, required, ◌⊛◌}
use Rattle.lq_tree.specs.Look.{Taken}

-- its keys

abbrev pub keys : Dialect → Keys Update
keys d =
    fields (λ table columns test. record { table_name = table; columns = columns; test = test })
    ⊛ required (codes "tableName") a_name
    ⊛ required_items (codes "columns") (a_column column_value)
    ⊛ where_keys d

unfoldable pub an_update : Dialect → Taken Update
an_update d = a_change (keys d)

-- names are names, values can be written, there is a column, and its text spells a test
abbrev pub is_for : Dialect → Update → Bool
is_for d x = is_name x.table_name && (are_some is_column_value x.columns && if_there (is_test d) x.test)

-- what it does

abbrev pub gives : Dialect → Update → List Statement
gives d x = statement.Update x.table_name (sets_of x.columns) (test_of x.test) ∷ []

-- the rows that the test takes have the values that are stated
abbrev pub becomes : Dialect → Update → Catalogue → Catalogue
becomes d x c = with_table c x.table_name (edited (sets_of x.columns) (test_of x.test) (the_table c x.table_name))

abbrev pub effect : Dialect → Update → Catalogue → Result Catalogue Reason
effect = effect_of gives becomes

abbrev pub is_fresh : Dialect → Update → Catalogue → Bool
is_fresh d x c = true

-- nothing brings the old values back
abbrev pub inverse : Dialect → Update → Option (List Statement)
inverse d x = None

-- its canonical text

abbrev pub rows : Update → List Row
rows x =
    (codes "tableName", Some (text x.table_name))
    ∷ (codes "columns", Some (list (maps column_rows x.columns)))
    ∷ (codes "where", option_map given_text x.test)
    ∷ []

abbrev pub canonical_of : Update → CanonicalChange
canonical_of x = change_of (codes "update") (rows x)

-- That update keeps its promises.

-- what is right of one that was read
record IsRight (d : Dialect) (x : Update) : Type 0 where
  table : is_name x.table_name ≡ true
  columns : are_some is_column_value x.columns ≡ true
  test : if_there (is_test d) x.test ≡ true

right_of : (d : Dialect) (x : Update) → is_for d x ≡ true → IsRight d x
right_of d x h =
    let a = and_right (is_name x.table_name) _ h in
    record {
      table = and_left (is_name x.table_name) _ h;
      columns = and_left (are_some is_column_value x.columns) _ a;
      test = and_right (are_some is_column_value x.columns) _ a;
    }

pub spelled : AreStatements is_for gives
spelled d x h =
    let r = right_of d x h in
    rw (object_of_name d x.table_name r.table, some_sets x.columns r.columns, set_names_right x.columns r.columns, set_literals_right x.columns r.columns, where_right d x.test r.test) refl

pub returned : AreReturns is_for inverse
returned d x undoing right taken = absurd Prim.cc

becomes_so : Becomes gives becomes is_for
becomes_so d x c e right sound ran = one_becomes d (statement.Update x.table_name (sets_of x.columns) (test_of x.test)) c e ran

pub does : HaveEffect is_for gives effect
does = does_so is_for gives becomes becomes_so

goes_back : GoesBack is_for gives is_fresh inverse
goes_back d x c e undoing right sound new ran taken = absurd Prim.cc

pub restores : TakeBack is_for effect is_fresh inverse
restores = restores_so is_for gives becomes is_fresh inverse becomes_so goes_back

same : (x y : Update) → x.table_name ≡ y.table_name → x.columns ≡ y.columns → x.test ≡ y.test → x ≡ y
same x y table columns test = rw (table, columns, test) refl

pub told : AreTold is_for canonical_of
told d x y right also e =
    let is : rows x ≡ rows y = keys_told (codes "update") (codes "update") (rows x) (rows y) refl refl e in
    let r = right_of d x right in
    let s = right_of d y also in
    same x y (text_told (ap (nth_value 0) is)) (columns_told x.columns y.columns r.columns s.columns (ap (nth_value 1) is)) (test_told d x.test y.test r.test s.test (ap (nth_value 2) is))
