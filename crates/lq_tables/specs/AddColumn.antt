-- addColumn: a table gets more columns, each at its end.
use Rattle.std.specs.List.{flat_map}
use Rattle.std.specs.Option.{option_and_then, option_map, option_to_list, unwrap_or}
use Rattle.std.specs.Prelude.{Bool, Err, List, None, Ok, Option, Result, Some, [], codes, false, if◌then◌else◌, is_none, is_some, map, not, true, ◌&&◌, ◌++◌, ◌∷◌}
use Rattle.lq_base.specs.Kind.{is_kind}
use Rattle.lq_base.specs.Name.{is_name, is_object, text_of, within}
use Rattle.lq_base.specs.Number.{if_there}
use Rattle.lq_base.specs.Value.{into_kind}
use Rattle.lq_base.specs.declared.dialect.Dialect.{Dialect}
use Rattle.lq_base.specs.declared.dialect.Dialect.TheVariants.{Mysql, Postgresql}
use Rattle.lq_base.specs.declared.fault.KindFault.TheVariants.{Missing}
use Rattle.lq_base.specs.declared.name.Name.{Name}
use Rattle.lq_base.specs.declared.reason.Reason.{Reason}
use Rattle.lq_base.specs.declared.value.Value.{Value}
use Rattle.lq_base.specs.declared.value.Value.TheVariants as value
use Rattle.lq_last_first.specs.LastFirst.{last_first}
use Rattle.lq_model.specs.Catalogue.{Catalogue, Table, the_table, with_table}
use Rattle.lq_model.specs.Changes.{CanonicalChange, kind_value, list, map_of, text, truth}
use Rattle.lq_model.specs.Effect.{effect_of}
use Rattle.lq_model.specs.Kinds.{value_in}
use Rattle.lq_model.specs.TakesBack.{Row, change_of, maps, pairs_of, schema_row}
use Rattle.lq_model.specs.declared.column.Column.{Column}
use Rattle.lq_model.specs.declared.column.ColumnDef.{ColumnDef}
use Rattle.lq_model.specs.declared.constraint.ForeignKey.{ForeignKey}
use Rattle.lq_model.specs.declared.constraint.Unique.{Unique}
use Rattle.lq_model.specs.declared.statement.Statement.{Statement}
use Rattle.lq_model.specs.declared.statement.Statement.TheVariants as statement
use Rattle.lq_tables.specs.Constraints.{a_reference, foreign_stated, is_reference, unique_stated}
use Rattle.lq_tables.specs.declared.add_column.AddColumn.{AddColumn}
use Rattle.lq_tables.specs.declared.add_column.AddedColumn.{AddedColumn}
use Rattle.lq_tables.specs.declared.add_column.AddedConstraints.{AddedConstraints}
use Rattle.lq_tree.specs.Given.{a_kind, a_name, a_truth}
use Rattle.lq_tree.specs.Items.{a_column, are_some, required_items}
use Rattle.lq_tree.specs.Keys.{Keys, a_change_in, fields, map_with, optional, required, ◌⊛◌}
use Rattle.lq_tree.specs.Look.{Found, Taken, and_then}
use Rattle.lq_tree.specs.Values.{is_given, literal_of}
use Rattle.lq_tree.specs.declared.values.GivenValue.{GivenValue}
use Rattle.lq_value_keys.specs.ValueKeys.{default_keys, default_rows, value_keys, value_rows}

-- its keys

-- a foreign key has a name
abbrev pub with_foreign_name : AddedConstraints → Found AddedConstraints
with_foreign_name cs = if is_some cs.references && is_none cs.foreign_key_name then Err (Missing (codes "foreignKeyName")) else Ok cs

abbrev pub constraints_keys : Keys (Found AddedConstraints)
constraints_keys =
    fields (λ key nullable unique name references foreign. with_foreign_name (record { primary_key_name = key; nullable = nullable; unique = unique; unique_constraint_name = name; references = references; foreign_key_name = foreign }))
    ⊛ optional (codes "primaryKeyName") a_name
    ⊛ optional (codes "nullable") a_truth
    ⊛ optional (codes "unique") a_truth
    ⊛ optional (codes "uniqueConstraintName") a_name
    ⊛ optional (codes "references") a_reference
    ⊛ optional (codes "foreignKeyName") a_name

unfoldable pub a_constraints : Taken AddedConstraints
a_constraints n = and_then (map_with [] constraints_keys n) (λ found. found)

abbrev pub column_keys : Keys AddedColumn
column_keys =
    fields (λ name kind default constraints value. record { name = name; kind = kind; default_value = default; constraints = constraints; value = value })
    ⊛ required (codes "name") a_name
    ⊛ required (codes "type") a_kind
    ⊛ default_keys
    ⊛ optional (codes "constraints") a_constraints
    ⊛ value_keys

unfoldable pub added_column : Taken AddedColumn
added_column = map_with (codes "remarks" ∷ []) column_keys

abbrev pub keys : Keys (Name → AddColumn)
keys =
    fields (λ table columns schema. record { table_name = within schema table; columns = columns })
    ⊛ required (codes "tableName") a_name
    ⊛ required_items (codes "columns") (a_column added_column)

unfoldable pub add_column : Dialect → Taken AddColumn
add_column d = a_change_in d keys

-- names are names, kinds are kinds, values can be written

abbrev pub is_constraints : AddedConstraints → Bool
is_constraints cs = if_there is_name cs.primary_key_name && (if_there is_name cs.unique_constraint_name && (if_there is_reference cs.references && if_there is_name cs.foreign_key_name))

abbrev pub is_added : AddedColumn → Bool
is_added x = is_name x.name && (is_kind x.kind && (if_there is_given x.default_value && (if_there is_constraints x.constraints && if_there is_given x.value)))

abbrev pub is_for : Dialect → AddColumn → Bool
is_for d x = is_object d x.table_name && are_some is_added x.columns

-- what is stated of a column

abbrev pub nullable_in : AddedConstraints → Option Bool
nullable_in cs = cs.nullable

-- it is NOT NULL
abbrev pub is_firm : AddedColumn → Bool
is_firm x = not (unwrap_or (option_and_then nullable_in x.constraints) true)

-- its unique constraint, where there is one
abbrev pub unique_of : Name → AddedColumn → Option Unique
unique_of t x = option_and_then (λ cs. unique_stated t x.name cs.unique cs.unique_constraint_name) x.constraints

-- its foreign key, where there is one
abbrev pub foreign_of : Name → AddedColumn → Option ForeignKey
foreign_of t x = option_and_then (λ cs. foreign_stated t x.name cs.references cs.foreign_key_name) x.constraints

-- what it gives: a column that is NOT NULL and has a value is nullable until the rows have it

abbrev pub def_of : AddedColumn → ColumnDef
def_of x = record {
  name = x.name;
  kind = x.kind;
  nullable = not (is_firm x && not (is_some x.value));
  default = option_map literal_of x.default_value;
  numbered = false;
}

abbrev pub firms : Dialect → Name → AddedColumn → List Statement
firms Postgresql t x = statement.SetNotNull t x.name ∷ []
firms Mysql t x = statement.Modify t x.name x.kind false ∷ []

-- by the value, and by whether the column is NOT NULL
abbrev pub sets : Dialect → Name → AddedColumn → Option GivenValue → Bool → List Statement
sets d t x None firm = []
sets d t x (Some v) firm = statement.Update t ((x.name, literal_of v) ∷ []) None ∷ (if firm then firms d t x else [])

abbrev pub joins : Name → Option Unique → List Statement
joins t None = []
joins t (Some u) = statement.AddUnique t u ∷ []

abbrev pub refers : Name → Option ForeignKey → List Statement
refers t None = []
refers t (Some f) = statement.AddForeignKey t f ∷ []

abbrev pub column_gives : Dialect → Name → AddedColumn → List Statement
column_gives d t x = (statement.AddColumn t (def_of x) ∷ []) ++ (sets d t x x.value (is_firm x) ++ (joins t (unique_of t x) ++ refers t (foreign_of t x)))

abbrev pub gives : Dialect → AddColumn → List Statement
gives d x = flat_map (column_gives d x.table_name) x.columns

-- what the table becomes

abbrev pub default_of : AddedColumn → Option Value
default_of x = option_map (λ v. value_in (into_kind (literal_of v) x.kind)) x.default_value

-- under MySQL a column that has a value and is NOT NULL keeps no default
abbrev pub kept_default : Dialect → AddedColumn → Option Value
kept_default Postgresql x = default_of x
kept_default Mysql x = if is_firm x && is_some x.value then None else default_of x

abbrev pub column_made : Dialect → AddedColumn → Column
column_made d x = record { name = x.name; kind = x.kind; nullable = not (is_firm x); default = kept_default d x; numbered = false }

-- each row gets the value, else the default, else null
abbrev pub value_made : AddedColumn → Option GivenValue → Value
value_made x None = unwrap_or (default_of x) value.Null
value_made x (Some v) = value_in (into_kind (literal_of v) x.kind)

-- the column goes to the end, and so do its unique constraint and its foreign key
abbrev pub with_added : Dialect → Name → AddedColumn → Table → Table
with_added d t x it = record it {
  columns = it.columns ++ column_made d x ∷ [];
  rows = map (λ row. row ++ value_made x x.value ∷ []) it.rows;
  uniques = it.uniques ++ option_to_list (unique_of t x);
  foreign = it.foreign ++ option_to_list (foreign_of t x);
}

abbrev pub column_becomes : Dialect → Name → AddedColumn → Catalogue → Catalogue
column_becomes d t x c = with_table c t (with_added d t x (the_table c t))

abbrev pub becomes_all : Dialect → Name → List AddedColumn → Catalogue → Catalogue
becomes_all d t [] c = c
becomes_all d t (x ∷ xs) c = becomes_all d t xs (column_becomes d t x c)

abbrev pub becomes : Dialect → AddColumn → Catalogue → Catalogue
becomes d x c = becomes_all d x.table_name x.columns c

abbrev pub effect : Dialect → AddColumn → Catalogue → Result Catalogue Reason
effect = effect_of gives becomes

abbrev pub is_fresh : Dialect → AddColumn → Catalogue → Bool
is_fresh d x c = true

-- what takes it back: the last column first

abbrev pub leaves : Dialect → Name → Option Unique → List Statement
leaves d t None = []
leaves Postgresql t (Some u) = statement.DropConstraint t u.name ∷ []
leaves Mysql t (Some u) = statement.DropUnique t u.name ∷ []

abbrev pub parts : Dialect → Name → Option ForeignKey → List Statement
parts d t None = []
parts Postgresql t (Some f) = statement.DropConstraint t f.name ∷ []
parts Mysql t (Some f) = statement.DropForeignKey t f.name ∷ []

abbrev pub column_inverse : Dialect → Name → AddedColumn → List Statement
column_inverse d t x = parts d t (foreign_of t x) ++ (leaves d t (unique_of t x) ++ statement.DropColumn t x.name ∷ [])

abbrev pub inverse_all : Dialect → Name → List AddedColumn → List Statement
inverse_all d t xs = last_first (column_inverse d t) xs

abbrev pub inverse : Dialect → AddColumn → Option (List Statement)
inverse d x = Some (inverse_all d x.table_name x.columns)

-- its canonical text

abbrev pub constraints_rows : AddedConstraints → List Row
constraints_rows cs =
    (codes "primaryKeyName", option_map (λ n. text n) cs.primary_key_name)
    ∷ (codes "nullable", option_map (λ b. truth b) cs.nullable)
    ∷ (codes "unique", option_map (λ b. truth b) cs.unique)
    ∷ (codes "uniqueConstraintName", option_map (λ n. text n) cs.unique_constraint_name)
    ∷ (codes "references", option_map (λ r. text r.text) cs.references)
    ∷ (codes "foreignKeyName", option_map (λ n. text n) cs.foreign_key_name)
    ∷ []

abbrev pub column_rows : AddedColumn → List Row
column_rows x =
    ((codes "name", Some (text x.name)) ∷ (codes "type", Some (kind_value x.kind)) ∷ [])
    ++ (default_rows x.default_value
    ++ ((codes "constraints", option_map (λ cs. map_of (pairs_of (constraints_rows cs))) x.constraints) ∷ value_rows x.value))

abbrev pub rows : AddColumn → List Row
rows x = (codes "tableName", Some (text (text_of x.table_name))) ∷ (codes "columns", Some (list (maps column_rows x.columns))) ∷ (codes "schemaName", schema_row x.table_name) ∷ []

abbrev pub canonical_of : AddColumn → CanonicalChange
canonical_of x = change_of (codes "addColumn") (rows x)
