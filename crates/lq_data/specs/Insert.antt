-- insert: a table gets a row.
use Rattle.std.proofs.Common.{ap, ◌∙◌}
use Rattle.std.specs.Prelude.{Bool, List, None, Option, Result, Some, [], codes, refl, true, ◌&&◌, ◌∷◌, ◌≡◌}
use Rattle.lq_base.proofs.BesideLemmas.{object_of_name}
use Rattle.lq_base.specs.Name.{is_name}
use Rattle.lq_base.specs.declared.dialect.Dialect.{Dialect}
use Rattle.lq_base.specs.declared.reason.Reason.{Reason}
use Rattle.lq_data.specs.ColumnValue.{column_rows, column_value, is_column_value, literals_of, names_of}
use Rattle.lq_data.specs.ColumnValueLaws.{columns_told, literals_right, names_right, some_literals}
use Rattle.lq_data.specs.declared.column_value.ColumnValue.{ColumnValue}
use Rattle.lq_data.specs.declared.insert.Insert.{Insert}
use Rattle.lq_model.proofs.Effects.{does_so, one_becomes, restores_so}
use Rattle.lq_model.proofs.Lists.{and_left, and_right}
use Rattle.lq_model.proofs.Told.{keys_told, text_told}
use Rattle.lq_model.specs.Catalogue.{Catalogue, Table, the_table, with_table}
use Rattle.lq_model.specs.Changes.{AreReturns, AreStatements, AreTold, CanonicalChange, HaveEffect, TakeBack, list, text}
use Rattle.lq_model.specs.Effect.{Becomes, GoesBack, effect_of}
use Rattle.lq_model.specs.Rows.{stated, with_row}
use Rattle.lq_model.specs.TakesBack.{Row, change_of, maps, nth_value}
use Rattle.lq_model.specs.declared.statement.Statement.{Statement}
use Rattle.lq_model.specs.declared.statement.Statement.TheVariants as statement
use Rattle.lq_tree.specs.Given.{a_name}
use Rattle.lq_tree.specs.Items.{a_column, are_some, required_items}
use Rattle.lq_tree.specs.Keys.{Keys, a_change, fields, required, ◌⊛◌}
use Rattle.lq_tree.specs.Look.{Taken}

-- its keys

abbrev pub keys : Keys Insert
keys =
    fields (λ table columns. record { table_name = table; columns = columns })
    ⊛ required (codes "tableName") a_name
    ⊛ required_items (codes "columns") (a_column column_value)

unfoldable pub an_insert : Taken Insert
an_insert = a_change keys

-- names are names, values can be written, and there is a column
abbrev pub is_for : Dialect → Insert → Bool
is_for d x = is_name x.table_name && are_some is_column_value x.columns

-- what it does

abbrev pub gives : Dialect → Insert → List Statement
gives d x = statement.Insert x.table_name (names_of x.columns) (literals_of x.columns) ∷ []

-- the row is the table's last; a column that is not stated takes the next number, or its default, or null
abbrev pub becomes : Dialect → Insert → Catalogue → Catalogue
becomes d x c = with_table c x.table_name (with_row d (names_of x.columns) (literals_of x.columns) (the_table c x.table_name))

abbrev pub effect : Dialect → Insert → Catalogue → Result Catalogue Reason
effect = effect_of gives becomes

abbrev pub is_fresh : Dialect → Insert → Catalogue → Bool
is_fresh d x c = true

-- nothing takes the row back
abbrev pub inverse : Dialect → Insert → Option (List Statement)
inverse d x = None

-- its canonical text

abbrev pub rows : Insert → List Row
rows x = (codes "tableName", Some (text x.table_name)) ∷ (codes "columns", Some (list (maps column_rows x.columns))) ∷ []

abbrev pub canonical_of : Insert → CanonicalChange
canonical_of x = change_of (codes "insert") (rows x)

-- That insert keeps its promises.

pub spelled : AreStatements is_for gives
spelled d x h =
    let some = and_right (is_name x.table_name) _ h in
    rw (object_of_name d x.table_name (and_left (is_name x.table_name) _ h), names_right x.columns some, some_literals x.columns some, literals_right x.columns some) refl

pub returned : AreReturns is_for inverse
returned d x undoing right taken = absurd Prim.cc

-- the columns that are stated are those of the row
all_stated : (it : Table) (xs : List ColumnValue) → are_some is_column_value xs ≡ true → names_of xs ≡ stated it (names_of xs)
all_stated it [] h = absurd Prim.cc
all_stated it (x ∷ xs) h = refl

becomes_so : Becomes gives becomes is_for
becomes_so d x c e right sound ran =
    let it = the_table c x.table_name in
    ap (λ ns. with_table c x.table_name (with_row d ns (literals_of x.columns) it)) (all_stated it x.columns (and_right (is_name x.table_name) _ right))
    ∙ one_becomes d (statement.Insert x.table_name (names_of x.columns) (literals_of x.columns)) c e ran

pub does : HaveEffect is_for gives effect
does = does_so is_for gives becomes becomes_so

goes_back : GoesBack is_for gives is_fresh inverse
goes_back d x c e undoing right sound new ran taken = absurd Prim.cc

pub restores : TakeBack is_for effect is_fresh inverse
restores = restores_so is_for gives becomes is_fresh inverse becomes_so goes_back

same : (x y : Insert) → x.table_name ≡ y.table_name → x.columns ≡ y.columns → x ≡ y
same x y table columns = rw (table, columns) refl

pub told : AreTold is_for canonical_of
told d x y right also e =
    let is : rows x ≡ rows y = keys_told (codes "insert") (codes "insert") (rows x) (rows y) refl refl e in
    same x y (text_told (ap (nth_value 0) is))
    (columns_told x.columns y.columns (and_right (is_name x.table_name) _ right) (and_right (is_name y.table_name) _ also) (ap (nth_value 1) is))
