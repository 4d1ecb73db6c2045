-- dropNotNullConstraint: a column takes null.
use Rattle.std.proofs.Common.{ap, subst, sym, ◌∙◌}
use Rattle.std.specs.List.{list_all}
use Rattle.std.specs.Option.{option_map}
use Rattle.std.specs.Prelude.{Bool, List, Option, Result, Some, [], codes, false, refl, true, ◌&&◌, ◌∷◌, ◌≡◌}
use Rattle.lq_base.specs.Kind.{is_kind}
use Rattle.lq_base.specs.Name.{is_name, is_object, text_of, within}
use Rattle.lq_base.specs.Number.{if_there}
use Rattle.lq_base.specs.declared.dialect.Dialect.{Dialect}
use Rattle.lq_base.specs.declared.name.Name.{Name}
use Rattle.lq_base.specs.declared.reason.Reason.{Reason}
use Rattle.lq_model.proofs.Effects.{does_so, restores_so, some_same}
use Rattle.lq_model.proofs.Lists.{and_left, and_right, and_true}
use Rattle.lq_model.proofs.Told.{keys_told, kinds_told, object_told, text_told}
use Rattle.lq_model.specs.Catalogue.{Catalogue, column_at, the_table, with_table}
use Rattle.lq_model.specs.Changes.{AreReturns, AreStatements, AreTold, CanonicalChange, HaveEffect, TakeBack, kind_value, text}
use Rattle.lq_model.specs.Effect.{Becomes, GoesBack, effect_of}
use Rattle.lq_model.specs.Step.{is_pg, is_statement, run}
use Rattle.lq_model.specs.Tables.{with_changed}
use Rattle.lq_model.specs.TakesBack.{Row, change_of, nth_value, schema_row}
use Rattle.lq_model.specs.declared.caller.By.TheVariants.{User}
use Rattle.lq_model.specs.declared.statement.Statement.{Statement}
use Rattle.lq_nullable.specs.Nullable.{allowed, allowing, is_new, is_stated, kind_stated}
use Rattle.lq_nullable.specs.NullableLaws.{allowing_back, allowing_becomes, allowing_spelled}
use Rattle.lq_nullable.specs.declared.drop_not_null.DropNotNullConstraint.{DropNotNullConstraint}
use Rattle.lq_tree.specs.Given.{a_kind, a_name}
use Rattle.lq_tree.specs.Keys.{Keys, a_change_in, fields, required, required_unless, ◌⊛◌}
use Rattle.lq_tree.specs.Look.{Taken}

-- its keys

abbrev pub keys : Dialect → Keys (Name → DropNotNullConstraint)
keys d =
    fields (λ table column kind schema. record { table_name = within schema table; column_name = column; column_data_type = kind })
    ⊛ required (codes "tableName") a_name
    ⊛ required (codes "columnName") a_name
    ⊛ required_unless (is_pg d) (codes "columnDataType") a_kind

unfoldable pub drop_not_null : Dialect → Taken DropNotNullConstraint
drop_not_null d = a_change_in d (keys d)

-- its names are names, and the kind is stated where it has to be
abbrev pub is_for : Dialect → DropNotNullConstraint → Bool
is_for d x = is_object d x.table_name && (is_name x.column_name && is_stated d x.column_data_type)

-- what it does

abbrev pub sets : Dialect → DropNotNullConstraint → Bool → Statement
sets d x nullable = allowing d x.table_name x.column_name (kind_stated x.column_data_type) nullable

abbrev pub gives : Dialect → DropNotNullConstraint → List Statement
gives d x = sets d x true ∷ []

-- the column takes null
abbrev pub becomes : Dialect → DropNotNullConstraint → Catalogue → Catalogue
becomes d x c = with_table c x.table_name (with_changed x.column_name (allowed d (kind_stated x.column_data_type) true) (the_table c x.table_name))

abbrev pub effect : Dialect → DropNotNullConstraint → Catalogue → Result Catalogue Reason
effect = effect_of gives becomes

-- only that the column takes null is new
abbrev pub is_fresh : Dialect → DropNotNullConstraint → Catalogue → Bool
is_fresh d x c = if_there (is_new d (kind_stated x.column_data_type) true) (column_at c x.table_name x.column_name)

abbrev pub inverse : Dialect → DropNotNullConstraint → Option (List Statement)
inverse d x = Some (sets d x false ∷ [])

-- its canonical text

abbrev pub rows : DropNotNullConstraint → List Row
rows x =
    (codes "tableName", Some (text (text_of x.table_name)))
    ∷ (codes "columnName", Some (text x.column_name))
    ∷ (codes "columnDataType", option_map kind_value x.column_data_type)
    ∷ (codes "schemaName", schema_row x.table_name)
    ∷ []

abbrev pub canonical_of : DropNotNullConstraint → CanonicalChange
canonical_of x = change_of (codes "dropNotNullConstraint") (rows x)

-- That dropNotNullConstraint keeps its promises.

pub spelled : AreStatements is_for gives
spelled d x h =
    let a = and_right (is_object d x.table_name) _ h in
    and_true (is_statement d (sets d x true)) true (allowing_spelled d x.table_name x.column_name x.column_data_type true (and_left (is_object d x.table_name) _ h) (and_left (is_name x.column_name) _ a) (and_right (is_name x.column_name) _ a)) refl

pub returned : AreReturns is_for inverse
returned d x undoing right taken =
    let a = and_right (is_object d x.table_name) _ right in
    let one = allowing_spelled d x.table_name x.column_name x.column_data_type false (and_left (is_object d x.table_name) _ right) (and_left (is_name x.column_name) _ a) (and_right (is_name x.column_name) _ a) in
    subst (λ ss. list_all (is_statement d) ss ≡ true) (some_same taken) (and_true (is_statement d (sets d x false)) true one refl)

becomes_so : Becomes gives becomes is_for
becomes_so d x c e right sound ran = allowing_becomes d x.table_name x.column_name (kind_stated x.column_data_type) true c e ran

pub does : HaveEffect is_for gives effect
does = does_so is_for gives becomes becomes_so

goes_back : GoesBack is_for gives is_fresh inverse
goes_back d x c e undoing right sound new ran taken =
    ap (λ ss. run User d ss e) (sym (some_same taken))
    ∙ allowing_back d x.table_name x.column_name (kind_stated x.column_data_type) true c e sound new ran

pub restores : TakeBack is_for effect is_fresh inverse
restores = restores_so is_for gives becomes is_fresh inverse becomes_so goes_back

same : (x y : DropNotNullConstraint) → x.table_name ≡ y.table_name → x.column_name ≡ y.column_name → x.column_data_type ≡ y.column_data_type → x ≡ y
same x y table column kind = rw (table, column, kind) refl

kinded : (d : Dialect) (x : DropNotNullConstraint) → is_for d x ≡ true → if_there is_kind x.column_data_type ≡ true
kinded d x h = and_left (if_there is_kind x.column_data_type) _ (and_right (is_name x.column_name) _ (and_right (is_object d x.table_name) _ h))

pub told : AreTold is_for canonical_of
told d x y right also e =
    let is : rows x ≡ rows y = keys_told (codes "dropNotNullConstraint") (codes "dropNotNullConstraint") (rows x) (rows y) refl refl e in
    same x y (object_told d x.table_name y.table_name (and_left (is_object d x.table_name) _ right) (and_left (is_object d y.table_name) _ also) (ap (nth_value 0) is) (ap (nth_value 3) is)) (text_told (ap (nth_value 1) is))
    (kinds_told x.column_data_type y.column_data_type (kinded d x right) (kinded d y also) (ap (nth_value 2) is))
