-- renameColumn: a column of a table gets another name.
use Rattle.std.proofs.Common.{ap, subst, sym, ◌∙◌}
use Rattle.std.specs.List.{list_all}
use Rattle.std.specs.Option.{option_map}
use Rattle.std.specs.Prelude.{Bool, List, Option, Result, Some, [], codes, map, refl, true, ◌&&◌, ◌∷◌, ◌≡◌}
use Rattle.lq_base.specs.Kind.{is_kind}
use Rattle.lq_base.specs.Name.{is_name, is_named, is_object, text_of, within}
use Rattle.lq_base.specs.Number.{if_there}
use Rattle.lq_base.specs.declared.dialect.Dialect.{Dialect}
use Rattle.lq_base.specs.declared.name.Name.{Name}
use Rattle.lq_base.specs.declared.reason.Reason.{Reason}
use Rattle.lq_model.proofs.Effects.{does_so, one_back, one_becomes, restores_so, some_same}
use Rattle.lq_model.proofs.Lists.{and_left, and_right}
use Rattle.lq_model.proofs.Told.{keys_told, kinds_told, object_told, text_told}
use Rattle.lq_model.proofs.UndoRenameColumn.{column_renamed_back}
use Rattle.lq_model.specs.Catalogue.{Catalogue}
use Rattle.lq_model.specs.Changes.{AreReturns, AreStatements, AreTold, CanonicalChange, HaveEffect, TakeBack, kind_value, text}
use Rattle.lq_model.specs.Effect.{Becomes, GoesBack, effect_of}
use Rattle.lq_model.specs.Step.{is_statement, run}
use Rattle.lq_model.specs.Tables.{with_column_renamed}
use Rattle.lq_model.specs.TakesBack.{Row, change_of, nth_value, schema_row}
use Rattle.lq_model.specs.declared.caller.By.TheVariants.{User}
use Rattle.lq_model.specs.declared.statement.Statement.{Statement}
use Rattle.lq_model.specs.declared.statement.Statement.TheVariants as statement
use Rattle.lq_rename_column.specs.declared.rename_column.RenameColumn.{RenameColumn}
use Rattle.lq_tree.specs.Given.{a_kind, a_name}
use Rattle.lq_tree.specs.Keys.{Keys, a_change_in, fields, optional, required, ◌⊛◌}
use Rattle.lq_tree.specs.Look.{Taken}

-- its keys

abbrev pub keys : Keys (Name → RenameColumn)
keys =
    fields (λ table old new kind schema. record { table_name = within schema table; old_column_name = old; new_column_name = new; column_data_type = kind })
    ⊛ required (codes "tableName") a_name
    ⊛ required (codes "oldColumnName") a_name
    ⊛ required (codes "newColumnName") a_name
    ⊛ optional (codes "columnDataType") a_kind

unfoldable pub rename_column : Dialect → Taken RenameColumn
rename_column d = a_change_in d keys

-- its names are names, and the kind that is stated is a kind
abbrev pub is_for : Dialect → RenameColumn → Bool
is_for d x = is_object d x.table_name && (is_name x.old_column_name && (is_name x.new_column_name && if_there is_kind x.column_data_type))

-- what it does

abbrev pub renames : Name → Name → Name → Statement
renames t n to = statement.RenameColumn t n to

abbrev pub gives : Dialect → RenameColumn → List Statement
gives d x = renames x.table_name x.old_column_name x.new_column_name ∷ []

-- the column has the new name, also in the keys, unique constraints, indexes and foreign keys of every table
abbrev pub becomes : Dialect → RenameColumn → Catalogue → Catalogue
becomes d x c = record c {
  tables = map (λ e. (e.0, with_column_renamed x.table_name (is_named x.table_name e.0) x.old_column_name x.new_column_name e.1)) c.tables;
}

abbrev pub effect : Dialect → RenameColumn → Catalogue → Result Catalogue Reason
effect = effect_of gives becomes

-- the name that it had is free, so it can always go back
abbrev pub is_fresh : Dialect → RenameColumn → Catalogue → Bool
is_fresh d x c = true

abbrev pub inverse : Dialect → RenameColumn → Option (List Statement)
inverse d x = Some (renames x.table_name x.new_column_name x.old_column_name ∷ [])

-- its canonical text

abbrev pub rows : RenameColumn → List Row
rows x =
    (codes "tableName", Some (text (text_of x.table_name)))
    ∷ (codes "oldColumnName", Some (text x.old_column_name))
    ∷ (codes "newColumnName", Some (text x.new_column_name))
    ∷ (codes "columnDataType", option_map kind_value x.column_data_type)
    ∷ (codes "schemaName", schema_row x.table_name)
    ∷ []

abbrev pub canonical_of : RenameColumn → CanonicalChange
canonical_of x = change_of (codes "renameColumn") (rows x)

-- That renameColumn keeps its promises.

pub spelled : AreStatements is_for gives
spelled d x h =
    let a = and_right (is_object d x.table_name) _ h in
    let b = and_right (is_name x.old_column_name) _ a in
    rw (and_left (is_object d x.table_name) _ h, and_left (is_name x.old_column_name) _ a, and_left (is_name x.new_column_name) _ b) refl

pub returned : AreReturns is_for inverse
returned d x undoing right taken =
    let a = and_right (is_object d x.table_name) _ right in
    let b = and_right (is_name x.old_column_name) _ a in
    subst (λ ss. list_all (is_statement d) ss ≡ true) (some_same taken) (rw (and_left (is_object d x.table_name) _ right, and_left (is_name x.new_column_name) _ b, and_left (is_name x.old_column_name) _ a) refl)

becomes_so : Becomes gives becomes is_for
becomes_so d x c e right sound ran = one_becomes d (renames x.table_name x.old_column_name x.new_column_name) c e ran

pub does : HaveEffect is_for gives effect
does = does_so is_for gives becomes becomes_so

goes_back : GoesBack is_for gives is_fresh inverse
goes_back d x c e undoing right sound new ran taken =
    ap (λ ss. run User d ss e) (sym (some_same taken))
    ∙ one_back d (renames x.table_name x.old_column_name x.new_column_name) (renames x.table_name x.new_column_name x.old_column_name) (column_renamed_back d x.table_name x.old_column_name x.new_column_name) c e sound ran

pub restores : TakeBack is_for effect is_fresh inverse
restores = restores_so is_for gives becomes is_fresh inverse becomes_so goes_back

same : (x y : RenameColumn) → x.table_name ≡ y.table_name → x.old_column_name ≡ y.old_column_name → x.new_column_name ≡ y.new_column_name → x.column_data_type ≡ y.column_data_type → x ≡ y
same x y table old new kind = rw (table, old, new, kind) refl

kinded : (d : Dialect) (x : RenameColumn) → is_for d x ≡ true → if_there is_kind x.column_data_type ≡ true
kinded d x h = and_right (is_name x.new_column_name) _ (and_right (is_name x.old_column_name) _ (and_right (is_object d x.table_name) _ h))

pub told : AreTold is_for canonical_of
told d x y right also e =
    let is : rows x ≡ rows y = keys_told (codes "renameColumn") (codes "renameColumn") (rows x) (rows y) refl refl e in
    same x y (object_told d x.table_name y.table_name (and_left (is_object d x.table_name) _ right) (and_left (is_object d y.table_name) _ also) (ap (nth_value 0) is) (ap (nth_value 4) is)) (text_told (ap (nth_value 1) is)) (text_told (ap (nth_value 2) is))
    (kinds_told x.column_data_type y.column_data_type (kinded d x right) (kinded d y also) (ap (nth_value 3) is))
