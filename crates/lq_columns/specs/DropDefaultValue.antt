-- dropDefaultValue: a column has no default any more.
use Rattle.std.proofs.Common.{ap}
use Rattle.std.specs.Option.{option_map}
use Rattle.std.specs.Prelude.{Bool, List, None, Option, Result, Some, [], codes, refl, true, ◌&&◌, ◌∷◌, ◌≡◌}
use Rattle.lq_base.specs.Kind.{is_kind}
use Rattle.lq_base.specs.Name.{is_name, is_object, text_of, within}
use Rattle.lq_base.specs.Number.{if_there}
use Rattle.lq_base.specs.declared.dialect.Dialect.{Dialect}
use Rattle.lq_base.specs.declared.name.Name.{Name}
use Rattle.lq_base.specs.declared.reason.Reason.{Reason}
use Rattle.lq_columns.specs.declared.drop_default_value.DropDefaultValue.{DropDefaultValue}
use Rattle.lq_model.proofs.Effects.{does_so, one_becomes, restores_so}
use Rattle.lq_model.proofs.Lists.{and_left, and_right}
use Rattle.lq_model.proofs.Told.{keys_told, kinds_told, object_told, text_told}
use Rattle.lq_model.specs.Catalogue.{Catalogue, the_table, with_table}
use Rattle.lq_model.specs.Changes.{AreReturns, AreStatements, AreTold, CanonicalChange, HaveEffect, TakeBack, kind_value, text}
use Rattle.lq_model.specs.Effect.{Becomes, GoesBack, effect_of}
use Rattle.lq_model.specs.Tables.{with_changed, with_default}
use Rattle.lq_model.specs.TakesBack.{Row, change_of, nth_value, schema_row}
use Rattle.lq_model.specs.declared.statement.Statement.{Statement}
use Rattle.lq_model.specs.declared.statement.Statement.TheVariants as statement
use Rattle.lq_tree.specs.Given.{a_kind, a_name}
use Rattle.lq_tree.specs.Keys.{Keys, a_change_in, fields, optional, required, ◌⊛◌}
use Rattle.lq_tree.specs.Look.{Taken}

-- its keys

abbrev pub keys : Keys (Name → DropDefaultValue)
keys =
    fields (λ table column kind schema. record { table_name = within schema table; column_name = column; column_data_type = kind })
    ⊛ required (codes "tableName") a_name
    ⊛ required (codes "columnName") a_name
    ⊛ optional (codes "columnDataType") a_kind

unfoldable pub drop_default_value : Dialect → Taken DropDefaultValue
drop_default_value d = a_change_in d keys

-- its names are names, and the kind that is stated is a kind
abbrev pub is_for : Dialect → DropDefaultValue → Bool
is_for d x = is_object d x.table_name && (is_name x.column_name && if_there is_kind x.column_data_type)

-- what it does

abbrev pub gives : Dialect → DropDefaultValue → List Statement
gives d x = statement.DropDefault x.table_name x.column_name ∷ []

-- the column has no default
abbrev pub becomes : Dialect → DropDefaultValue → Catalogue → Catalogue
becomes d x c = with_table c x.table_name (with_changed x.column_name (with_default None) (the_table c x.table_name))

abbrev pub effect : Dialect → DropDefaultValue → Catalogue → Result Catalogue Reason
effect = effect_of gives becomes

abbrev pub is_fresh : Dialect → DropDefaultValue → Catalogue → Bool
is_fresh d x c = true

-- nothing brings the default back
abbrev pub inverse : Dialect → DropDefaultValue → Option (List Statement)
inverse d x = None

-- its canonical text

abbrev pub rows : DropDefaultValue → List Row
rows x =
    (codes "tableName", Some (text (text_of x.table_name)))
    ∷ (codes "columnName", Some (text x.column_name))
    ∷ (codes "columnDataType", option_map kind_value x.column_data_type)
    ∷ (codes "schemaName", schema_row x.table_name)
    ∷ []

abbrev pub canonical_of : DropDefaultValue → CanonicalChange
canonical_of x = change_of (codes "dropDefaultValue") (rows x)

-- That dropDefaultValue keeps its promises.

pub spelled : AreStatements is_for gives
spelled d x h =
    let a = and_right (is_object d x.table_name) _ h in
    rw (and_left (is_object d x.table_name) _ h, and_left (is_name x.column_name) _ a) refl

pub returned : AreReturns is_for inverse
returned d x undoing right taken = absurd Prim.cc

becomes_so : Becomes gives becomes is_for
becomes_so d x c e right sound ran = one_becomes d (statement.DropDefault x.table_name x.column_name) c e ran

pub does : HaveEffect is_for gives effect
does = does_so is_for gives becomes becomes_so

goes_back : GoesBack is_for gives is_fresh inverse
goes_back d x c e undoing right sound new ran taken = absurd Prim.cc

pub restores : TakeBack is_for effect is_fresh inverse
restores = restores_so is_for gives becomes is_fresh inverse becomes_so goes_back

same : (x y : DropDefaultValue) → x.table_name ≡ y.table_name → x.column_name ≡ y.column_name → x.column_data_type ≡ y.column_data_type → x ≡ y
same x y table column kind = rw (table, column, kind) refl

kinded : (d : Dialect) (x : DropDefaultValue) → is_for d x ≡ true → if_there is_kind x.column_data_type ≡ true
kinded d x h = and_right (is_name x.column_name) _ (and_right (is_object d x.table_name) _ h)

pub told : AreTold is_for canonical_of
told d x y right also e =
    let is : rows x ≡ rows y = keys_told (codes "dropDefaultValue") (codes "dropDefaultValue") (rows x) (rows y) refl refl e in
    same x y (object_told d x.table_name y.table_name (and_left (is_object d x.table_name) _ right) (and_left (is_object d y.table_name) _ also) (ap (nth_value 0) is) (ap (nth_value 3) is)) (text_told (ap (nth_value 1) is))
    (kinds_told x.column_data_type y.column_data_type (kinded d x right) (kinded d y also) (ap (nth_value 2) is))
