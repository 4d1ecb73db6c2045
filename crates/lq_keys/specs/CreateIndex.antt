-- createIndex: a table gets an index.
use Rattle.std.proofs.Common.{ap, subst, sym, ◌∙◌}
use Rattle.std.specs.List.{list_all}
use Rattle.std.specs.Option.{option_map, unwrap_or}
use Rattle.std.specs.Prelude.{Bool, List, Option, Result, Some, [], codes, false, not, refl, true, ◌&&◌, ◌∷◌, ◌≡◌}
use Rattle.lq_base.proofs.BesideLemmas.{is_whole}
use Rattle.lq_base.specs.Name.{is_name, is_object, text_of, within}
use Rattle.lq_base.specs.Number.{if_there}
use Rattle.lq_base.specs.declared.dialect.Dialect.{Dialect}
use Rattle.lq_base.specs.declared.name.Name.{Name}
use Rattle.lq_base.specs.declared.reason.Reason.{Reason}
use Rattle.lq_drops.specs.Drops.{drops_index}
use Rattle.lq_keys.specs.DropsLaws.{index_back, index_spelled}
use Rattle.lq_keys.specs.NamedLaws.{named}
use Rattle.lq_keys.specs.OnDelete as column
use Rattle.lq_keys.specs.OnDelete.{index_column, is_column, names_of}
use Rattle.lq_keys.specs.declared.create_index.CreateIndex.{CreateIndex}
use Rattle.lq_keys.specs.declared.index_column.IndexColumn.{IndexColumn}
use Rattle.lq_model.proofs.DefaultNames.{default_named}
use Rattle.lq_model.proofs.Effects.{does_so, one_becomes, restores_so, some_same}
use Rattle.lq_model.proofs.Lists.{all-map, and_left, and_right, and_true}
use Rattle.lq_model.proofs.Told.{keys_told, map_told, maps_told, object_told, text_told, texts_told, truths_told}
use Rattle.lq_model.specs.Catalogue.{Catalogue, the_table, with_table}
use Rattle.lq_model.specs.Changes.{AreReturns, AreStatements, AreTold, CanonicalChange, HaveEffect, TakeBack, list, text, truth}
use Rattle.lq_model.specs.Constraints.{with_index}
use Rattle.lq_model.specs.Effect.{Becomes, GoesBack, effect_of}
use Rattle.lq_model.specs.Sound.{index_name}
use Rattle.lq_model.specs.Step.{is_name_list, is_statement, run}
use Rattle.lq_model.specs.TakesBack.{Row, change_of, map_with, maps, nth_value, schema_row}
use Rattle.lq_model.specs.declared.caller.By.TheVariants.{User}
use Rattle.lq_model.specs.declared.index.Index.{Index}
use Rattle.lq_model.specs.declared.statement.Statement.{Statement}
use Rattle.lq_model.specs.declared.statement.Statement.TheVariants as statement
use Rattle.lq_tree.specs.Given.{a_name, a_truth}
use Rattle.lq_tree.specs.Items.{a_column, are_some, is_empty, required_items}
use Rattle.lq_tree.specs.Keys.{Keys, a_change_in, fields, optional, required, ◌⊛◌}
use Rattle.lq_tree.specs.Look.{Taken}

-- its keys

abbrev pub keys : Keys (Name → CreateIndex)
keys =
    fields (λ index table columns unique schema. record { index_name = index; table_name = within schema table; columns = columns; unique = unique })
    ⊛ optional (codes "indexName") a_name
    ⊛ required (codes "tableName") a_name
    ⊛ required_items (codes "columns") (a_column index_column)
    ⊛ optional (codes "unique") a_truth

unfoldable pub create_index : Dialect → Taken CreateIndex
create_index d = a_change_in d keys

-- its names are names, and it has a column
abbrev pub is_for : Dialect → CreateIndex → Bool
is_for d x = if_there is_name x.index_name && (is_object d x.table_name && are_some is_column x.columns)

-- what it does

-- the index's name, by default that of one that is not named
abbrev pub name_of : CreateIndex → Name
name_of x = unwrap_or x.index_name (index_name x.table_name (names_of x.columns))

abbrev pub index_of : CreateIndex → Index
index_of x = record { name = name_of x; columns = names_of x.columns; unique = unwrap_or x.unique false }

abbrev pub gives : Dialect → CreateIndex → List Statement
gives d x = statement.CreateIndex x.table_name (index_of x) ∷ []

-- it goes to the end of the table's indexes
abbrev pub becomes : Dialect → CreateIndex → Catalogue → Catalogue
becomes d x c = with_table c x.table_name (with_index (index_of x) (the_table c x.table_name))

abbrev pub effect : Dialect → CreateIndex → Catalogue → Result Catalogue Reason
effect = effect_of gives becomes

abbrev pub is_fresh : Dialect → CreateIndex → Catalogue → Bool
is_fresh d x c = true

abbrev pub inverse : Dialect → CreateIndex → Option (List Statement)
inverse d x = Some (drops_index d (name_of x) x.table_name ∷ [])

-- its canonical text

abbrev pub rows : CreateIndex → List Row
rows x =
    (codes "indexName", option_map (λ name. text name) x.index_name)
    ∷ (codes "tableName", Some (text (text_of x.table_name)))
    ∷ (codes "columns", Some (list (maps column.rows x.columns)))
    ∷ (codes "unique", option_map (λ unique. truth unique) x.unique)
    ∷ (codes "schemaName", schema_row x.table_name)
    ∷ []

abbrev pub canonical_of : CreateIndex → CanonicalChange
canonical_of x = change_of (codes "createIndex") (rows x)

-- That createIndex keeps its promises.

all_columns : (xs : List IndexColumn) → are_some is_column xs ≡ true → list_all is_column xs ≡ true
all_columns xs h = and_right (not (is_empty xs)) _ h

all_named : (xs : List IndexColumn) → are_some is_column xs ≡ true → list_all is_name (names_of xs) ≡ true
all_named xs h = all-map is_name (λ column. column.name) xs ∙ all_columns xs h

listed : (xs : List IndexColumn) → are_some is_column xs ≡ true → is_name_list (names_of xs) ≡ true
listed [] h = h
listed (x ∷ xs) h = all_named (x ∷ xs) h

columned : (d : Dialect) (x : CreateIndex) → is_for d x ≡ true → are_some is_column x.columns ≡ true
columned d x h = and_right (is_object d x.table_name) _ (and_right (if_there is_name x.index_name) _ h)

name_named : (d : Dialect) (x : CreateIndex) → is_for d x ≡ true → is_name (name_of x) ≡ true
name_named d x h =
    let t = and_left (is_object d x.table_name) _ (and_right (if_there is_name x.index_name) _ h) in
    named x.index_name (index_name x.table_name (names_of x.columns)) (and_left (if_there is_name x.index_name) _ h) (default_named d x.table_name (names_of x.columns) (is_whole d x.table_name t) (all_named x.columns (columned d x h))).3

pub spelled : AreStatements is_for gives
spelled d x h =
    let t = and_left (is_object d x.table_name) _ (and_right (if_there is_name x.index_name) _ h) in
    let ns = columned d x h in
    rw (t, name_named d x h, listed x.columns ns) refl

pub returned : AreReturns is_for inverse
returned d x undoing right taken =
    let t = and_left (is_object d x.table_name) _ (and_right (if_there is_name x.index_name) _ right) in
    let one = index_spelled d (name_of x) x.table_name (name_named d x right) t in
    subst (λ ss. list_all (is_statement d) ss ≡ true) (some_same taken) (and_true (is_statement d (drops_index d (name_of x) x.table_name)) true one refl)

becomes_so : Becomes gives becomes is_for
becomes_so d x c e right sound ran = one_becomes d (statement.CreateIndex x.table_name (index_of x)) c e ran

pub does : HaveEffect is_for gives effect
does = does_so is_for gives becomes becomes_so

goes_back : GoesBack is_for gives is_fresh inverse
goes_back d x c e undoing right sound new ran taken = ap (λ ss. run User d ss e) (sym (some_same taken)) ∙ index_back d x.table_name (index_of x) c e sound ran

pub restores : TakeBack is_for effect is_fresh inverse
restores = restores_so is_for gives becomes is_fresh inverse becomes_so goes_back

same_column : (x y : IndexColumn) → x.name ≡ y.name → x ≡ y
same_column x y name = rw name refl

column_told : (x y : IndexColumn) → is_column x ≡ true → is_column y ≡ true → map_with (column.rows x) ≡ map_with (column.rows y) → x ≡ y
column_told x y right also e = same_column x y (text_told (ap (nth_value 0) (map_told (column.rows x) (column.rows y) refl refl e)))

same : (x y : CreateIndex) → x.index_name ≡ y.index_name → x.table_name ≡ y.table_name → x.columns ≡ y.columns → x.unique ≡ y.unique → x ≡ y
same x y index table columns unique = rw (index, table, columns, unique) refl

pub told : AreTold is_for canonical_of
told d x y right also e =
    let is : rows x ≡ rows y = keys_told (codes "createIndex") (codes "createIndex") (rows x) (rows y) refl refl e in
    same x y (texts_told x.index_name y.index_name (ap (nth_value 0) is)) (object_told d x.table_name y.table_name (and_left (is_object d x.table_name) _ (and_right (if_there is_name x.index_name) _ right)) (and_left (is_object d y.table_name) _ (and_right (if_there is_name y.index_name) _ also)) (ap (nth_value 1) is) (ap (nth_value 4) is))
    (maps_told column.rows is_column column_told x.columns y.columns (all_columns x.columns (columned d x right)) (all_columns y.columns (columned d y also)) (ap (nth_value 2) is))
    (truths_told x.unique y.unique (ap (nth_value 3) is))
