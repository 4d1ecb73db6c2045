-- addDefaultValue: a column gets a default.
use Rattle.std.proofs.Common.{ap, subst, sym, ◌∙◌}
use Rattle.std.specs.List.{list_all}
use Rattle.std.specs.Option.{option_map}
use Rattle.std.specs.Prelude.{Bool, Err, List, None, Ok, Option, Result, Some, [], codes, is_none, refl, true, ◌&&◌, ◌++◌, ◌∷◌, ◌≡◌}
use Rattle.lq_base.specs.Kind.{is_kind}
use Rattle.lq_base.specs.Name.{is_name, is_object, text_of, within}
use Rattle.lq_base.specs.Number.{if_there}
use Rattle.lq_base.specs.Value.{into_kind}
use Rattle.lq_base.specs.declared.dialect.Dialect.{Dialect}
use Rattle.lq_base.specs.declared.fault.KindFault.TheVariants.{Missing}
use Rattle.lq_base.specs.declared.kind.Kind.{Kind}
use Rattle.lq_base.specs.declared.name.Name.{Name}
use Rattle.lq_base.specs.declared.reason.Reason.{Reason}
use Rattle.lq_base.specs.declared.value.Value.{Value}
use Rattle.lq_columns.specs.declared.add_default_value.AddDefaultValue.{AddDefaultValue}
use Rattle.lq_model.proofs.Columns.{each_of_first}
use Rattle.lq_model.proofs.Effects.{does_so, one_back_where, one_becomes, restores_so, some_same}
use Rattle.lq_model.proofs.Lists.{and_left, and_right}
use Rattle.lq_model.proofs.Told.{keys_told, kinds_told, object_told, text_told}
use Rattle.lq_model.proofs.UndoChanges.{drop_default_after}
use Rattle.lq_model.specs.Catalogue.{Catalogue, Table, column_at, the_table, with_table}
use Rattle.lq_model.specs.Changes.{AreReturns, AreStatements, AreTold, CanonicalChange, HaveEffect, TakeBack, kind_value, text}
use Rattle.lq_model.specs.Effect.{Becomes, GoesBack, effect_of}
use Rattle.lq_model.specs.Kinds.{kind_in, value_in}
use Rattle.lq_model.specs.Step.{is_statement, run}
use Rattle.lq_model.specs.Tables.{with_changed, with_default}
use Rattle.lq_model.specs.TakesBack.{Row, change_of, is_each, nth_value, schema_row}
use Rattle.lq_model.specs.declared.caller.By.TheVariants.{User}
use Rattle.lq_model.specs.declared.statement.Statement.{Statement}
use Rattle.lq_model.specs.declared.statement.Statement.TheVariants as statement
use Rattle.lq_tree.specs.Given.{a_kind, a_name}
use Rattle.lq_tree.specs.Keys.{Keys, a_change_in, fields, optional, required, ◌⊛◌}
use Rattle.lq_tree.specs.Look.{Found, Taken, and_then}
use Rattle.lq_tree.specs.Values.{is_given, literal_of}
use Rattle.lq_tree.specs.declared.values.GivenValue.{GivenValue}
use Rattle.lq_value_keys.proofs.ValueLaws.{given_is_literal, value_told}
use Rattle.lq_value_keys.specs.ValueKeys.{default_keys, default_rows}

-- its keys

-- one value has to be there
abbrev pub stated : Name → Name → Option Kind → Option GivenValue → Name → Found AddDefaultValue
stated table column kind None schema = Err (Missing (codes "defaultValue"))
stated table column kind (Some value) schema = Ok (record { table_name = within schema table; column_name = column; column_data_type = kind; default_value = value })

abbrev pub keys : Keys (Name → Found AddDefaultValue)
keys =
    fields stated
    ⊛ required (codes "tableName") a_name
    ⊛ required (codes "columnName") a_name
    ⊛ optional (codes "columnDataType") a_kind
    ⊛ default_keys

-- which is tested after all keys
unfoldable pub add_default_value : Dialect → Taken AddDefaultValue
add_default_value d n = and_then (a_change_in d keys n) (λ found. found)

-- its names are names, the kind that is stated is a kind, and the value can be written
abbrev pub is_for : Dialect → AddDefaultValue → Bool
is_for d x = is_object d x.table_name && (is_name x.column_name && (if_there is_kind x.column_data_type && is_given x.default_value))

-- what it does

abbrev pub gives : Dialect → AddDefaultValue → List Statement
gives d x = statement.SetDefault x.table_name x.column_name (literal_of x.default_value) ∷ []

-- the value as one of the column's kind
abbrev pub value_of : Table → AddDefaultValue → Value
value_of it x = value_in (into_kind (literal_of x.default_value) (kind_in x.column_name it.columns))

-- the default is the value
abbrev pub becomes : Dialect → AddDefaultValue → Catalogue → Catalogue
becomes d x c = with_table c x.table_name (with_changed x.column_name (with_default (Some (value_of (the_table c x.table_name) x))) (the_table c x.table_name))

abbrev pub effect : Dialect → AddDefaultValue → Catalogue → Result Catalogue Reason
effect = effect_of gives becomes

-- the column has no default
abbrev pub is_fresh : Dialect → AddDefaultValue → Catalogue → Bool
is_fresh d x c = if_there (λ column. is_none column.default) (column_at c x.table_name x.column_name)

abbrev pub inverse : Dialect → AddDefaultValue → Option (List Statement)
inverse d x = Some (statement.DropDefault x.table_name x.column_name ∷ [])

-- its canonical text

abbrev pub rows : AddDefaultValue → List Row
rows x =
    (codes "tableName", Some (text (text_of x.table_name)))
    ∷ (codes "columnName", Some (text x.column_name))
    ∷ (codes "columnDataType", option_map kind_value x.column_data_type)
    ∷ (default_rows (Some x.default_value) ++ (codes "schemaName", schema_row x.table_name) ∷ [])

abbrev pub canonical_of : AddDefaultValue → CanonicalChange
canonical_of x = change_of (codes "addDefaultValue") (rows x)

-- That addDefaultValue keeps its promises.

-- what is right of it
record IsRight (d : Dialect) (x : AddDefaultValue) : Type 0 where
  table : is_object d x.table_name ≡ true
  column : is_name x.column_name ≡ true
  kind : if_there is_kind x.column_data_type ≡ true
  value : is_given x.default_value ≡ true

right_of : (d : Dialect) (x : AddDefaultValue) → is_for d x ≡ true → IsRight d x
right_of d x h =
    let a = and_right (is_object d x.table_name) _ h in
    let b = and_right (is_name x.column_name) _ a in
    record {
      table = and_left (is_object d x.table_name) _ h;
      column = and_left (is_name x.column_name) _ a;
      kind = and_left (if_there is_kind x.column_data_type) _ b;
      value = and_right (if_there is_kind x.column_data_type) _ b;
    }

pub spelled : AreStatements is_for gives
spelled d x h = let r = right_of d x h in rw (r.table, r.column, given_is_literal x.default_value r.value) refl

pub returned : AreReturns is_for inverse
returned d x undoing right taken =
    let r = right_of d x right in
    subst (λ ss. list_all (is_statement d) ss ≡ true) (some_same taken) (rw (r.table, r.column) refl)

becomes_so : Becomes gives becomes is_for
becomes_so d x c e right sound ran = one_becomes d (statement.SetDefault x.table_name x.column_name (literal_of x.default_value)) c e ran

pub does : HaveEffect is_for gives effect
does = does_so is_for gives becomes becomes_so

goes_back : GoesBack is_for gives is_fresh inverse
goes_back d x c e undoing right sound new ran taken =
    ap (λ ss. run User d ss e) (sym (some_same taken))
    ∙ one_back_where d (is_each x.table_name x.column_name (λ column. is_none column.default)) (statement.SetDefault x.table_name x.column_name (literal_of x.default_value)) (statement.DropDefault x.table_name x.column_name) (drop_default_after d x.table_name x.column_name (literal_of x.default_value)) c e sound (each_of_first d c x.table_name x.column_name (λ column. is_none column.default) sound new) ran

pub restores : TakeBack is_for effect is_fresh inverse
restores = restores_so is_for gives becomes is_fresh inverse becomes_so goes_back

same : (x y : AddDefaultValue) → x.table_name ≡ y.table_name → x.column_name ≡ y.column_name → x.column_data_type ≡ y.column_data_type → x.default_value ≡ y.default_value → x ≡ y
same x y table column kind value = rw (table, column, kind, value) refl

pub told : AreTold is_for canonical_of
told d x y right also e =
    let is : rows x ≡ rows y = keys_told (codes "addDefaultValue") (codes "addDefaultValue") (rows x) (rows y) refl refl e in
    let r = right_of d x right in
    let s = right_of d y also in
    same x y (object_told d x.table_name y.table_name r.table s.table (ap (nth_value 0) is) (ap (nth_value 7) is)) (text_told (ap (nth_value 1) is))
    (kinds_told x.column_data_type y.column_data_type r.kind s.kind (ap (nth_value 2) is))
    (some_same (value_told (Some x.default_value) (Some y.default_value) r.value s.value (ap (nth_value 3) is) (ap (nth_value 4) is) (ap (nth_value 5) is) (ap (nth_value 6) is)))
