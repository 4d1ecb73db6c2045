-- createTable: a table is there as it is stated, without rows.
use Rattle.std.specs.List.{flat_map}
use Rattle.std.specs.Option.{option_and_then, option_map, option_to_list, unwrap_or}
use Rattle.std.specs.Prelude.{Bool, Err, List, None, Ok, Option, Result, Some, [], codes, false, if◌then◌else◌, is_none, is_some, map, not, true, ◌&&◌, ◌++◌, ◌∷◌}
use Rattle.lq_base.specs.Kind.{is_kind}
use Rattle.lq_base.specs.Name.{is_name, is_object, text_of, within}
use Rattle.lq_base.specs.Number.{if_there}
use Rattle.lq_base.specs.declared.dialect.Dialect.{Dialect}
use Rattle.lq_base.specs.declared.dialect.Dialect.TheVariants.{Mysql, Postgresql}
use Rattle.lq_base.specs.declared.fault.KindFault.TheVariants.{Missing}
use Rattle.lq_base.specs.declared.name.Name.{Name}
use Rattle.lq_base.specs.declared.reason.Reason.{Reason}
use Rattle.lq_model.specs.Catalogue.{Catalogue, Table, with_new}
use Rattle.lq_model.specs.Changes.{CanonicalChange, kind_value, list, map_of, text, truth}
use Rattle.lq_model.specs.Effect.{effect_of}
use Rattle.lq_model.specs.Kinds.{column_of}
use Rattle.lq_model.specs.Sound.{key_name}
use Rattle.lq_model.specs.Tables.{key_column}
use Rattle.lq_model.specs.TakesBack.{Row, change_of, maps, pairs_of, schema_row}
use Rattle.lq_model.specs.declared.column.ColumnDef.{ColumnDef}
use Rattle.lq_model.specs.declared.constraint.ForeignKey.{ForeignKey}
use Rattle.lq_model.specs.declared.constraint.Key.{Key}
use Rattle.lq_model.specs.declared.constraint.Unique.{Unique}
use Rattle.lq_model.specs.declared.statement.Statement.{Statement}
use Rattle.lq_model.specs.declared.statement.Statement.TheVariants as statement
use Rattle.lq_tables.specs.Constraints.{a_reference, foreign_stated, is_reference, unique_stated}
use Rattle.lq_tables.specs.declared.create_table.CreateTable.{CreateTable}
use Rattle.lq_tables.specs.declared.create_table.CreatedColumn.{CreatedColumn}
use Rattle.lq_tables.specs.declared.create_table.CreatedConstraints.{CreatedConstraints}
use Rattle.lq_tree.specs.Given.{a_kind, a_name, a_truth}
use Rattle.lq_tree.specs.Items.{a_column, are_some, required_items}
use Rattle.lq_tree.specs.Keys.{Keys, a_change_in, fields, map_with, optional, required, ◌⊛◌}
use Rattle.lq_tree.specs.Look.{Found, Taken, and_then}
use Rattle.lq_tree.specs.Values.{is_given, literal_of}
use Rattle.lq_value_keys.specs.ValueKeys.{default_keys, default_rows}

-- its keys

-- a foreign key has a name
abbrev pub with_foreign_name : CreatedConstraints → Found CreatedConstraints
with_foreign_name cs = if is_some cs.references && is_none cs.foreign_key_name then Err (Missing (codes "foreignKeyName")) else Ok cs

abbrev pub constraints_keys : Keys (Found CreatedConstraints)
constraints_keys =
    fields (λ primary key nullable unique name references foreign. with_foreign_name (record { primary_key = primary; primary_key_name = key; nullable = nullable; unique = unique; unique_constraint_name = name; references = references; foreign_key_name = foreign }))
    ⊛ optional (codes "primaryKey") a_truth
    ⊛ optional (codes "primaryKeyName") a_name
    ⊛ optional (codes "nullable") a_truth
    ⊛ optional (codes "unique") a_truth
    ⊛ optional (codes "uniqueConstraintName") a_name
    ⊛ optional (codes "references") a_reference
    ⊛ optional (codes "foreignKeyName") a_name

unfoldable pub created_constraints : Taken CreatedConstraints
created_constraints n = and_then (map_with [] constraints_keys n) (λ found. found)

abbrev pub column_keys : Keys CreatedColumn
column_keys =
    fields (λ name kind numbered default constraints. record { name = name; kind = kind; auto_increment = numbered; default_value = default; constraints = constraints })
    ⊛ required (codes "name") a_name
    ⊛ required (codes "type") a_kind
    ⊛ optional (codes "autoIncrement") a_truth
    ⊛ default_keys
    ⊛ optional (codes "constraints") created_constraints

unfoldable pub created_column : Taken CreatedColumn
created_column = map_with (codes "remarks" ∷ []) column_keys

abbrev pub keys : Keys (Name → CreateTable)
keys =
    fields (λ table columns schema. record { table_name = within schema table; columns = columns })
    ⊛ required (codes "tableName") a_name
    ⊛ required_items (codes "columns") (a_column created_column)

unfoldable pub create_table : Dialect → Taken CreateTable
create_table d = a_change_in d keys

-- names are names, kinds are kinds, values can be written

abbrev pub is_constraints : CreatedConstraints → Bool
is_constraints cs = if_there is_name cs.primary_key_name && (if_there is_name cs.unique_constraint_name && (if_there is_reference cs.references && if_there is_name cs.foreign_key_name))

abbrev pub is_created : CreatedColumn → Bool
is_created x = is_name x.name && (is_kind x.kind && (if_there is_given x.default_value && if_there is_constraints x.constraints))

abbrev pub is_for : Dialect → CreateTable → Bool
is_for d x = is_object d x.table_name && are_some is_created x.columns

-- what is stated of a column

-- it is in the key
abbrev pub is_in_key : CreatedColumn → Bool
is_in_key x = unwrap_or (option_and_then (λ (cs : CreatedConstraints). cs.primary_key) x.constraints) false

-- it takes null
abbrev pub is_loose : CreatedColumn → Bool
is_loose x = not (is_in_key x) && unwrap_or (option_and_then (λ (cs : CreatedConstraints). cs.nullable) x.constraints) true

abbrev pub def_of : CreatedColumn → ColumnDef
def_of x = record {
  name = x.name;
  kind = x.kind;
  nullable = is_loose x;
  default = option_map literal_of x.default_value;
  numbered = unwrap_or x.auto_increment false;
}

abbrev pub unique_of : Name → CreatedColumn → List Unique
unique_of t x = option_to_list (option_and_then (λ (cs : CreatedConstraints). unique_stated t x.name cs.unique cs.unique_constraint_name) x.constraints)

abbrev pub foreign_of : Name → CreatedColumn → List ForeignKey
foreign_of t x = option_to_list (option_and_then (λ (cs : CreatedConstraints). foreign_stated t x.name cs.references cs.foreign_key_name) x.constraints)

-- what is stated of the table

-- the columns of the key
abbrev pub key_column_of : CreatedColumn → List Name
key_column_of x = if is_in_key x then x.name ∷ [] else []

abbrev pub key_columns : List CreatedColumn → List Name
key_columns xs = flat_map key_column_of xs

-- the key's name that one of its columns states
abbrev pub stated_name : CreatedColumn → Option Name
stated_name x = if is_in_key x then option_and_then (λ (cs : CreatedConstraints). cs.primary_key_name) x.constraints else None

-- the first that one of them states
abbrev pub first_name : List CreatedColumn → Option Name
first_name [] = None
first_name (x ∷ xs) = elim (stated_name x) [ Some name ↦ Some name | None ↦ first_name xs ]

-- else the default name, which under MySQL is always the key's
abbrev pub key_named : Dialect → Name → List CreatedColumn → Name
key_named Postgresql t xs = unwrap_or (first_name xs) (key_name Postgresql t)
key_named Mysql t xs = key_name Mysql t

-- the key, where a column is in it
abbrev pub key_with : Name → List Name → Option Key
key_with name [] = None
key_with name (n ∷ ns) = Some (record { name = name; columns = n ∷ ns })

abbrev pub key_of : Dialect → Name → List CreatedColumn → Option Key
key_of d t xs = key_with (key_named d t xs) (key_columns xs)

-- what it does

abbrev pub creates : Dialect → CreateTable → Statement
creates d x = statement.CreateTable x.table_name (map def_of x.columns) (key_of d x.table_name x.columns) (flat_map (unique_of x.table_name) x.columns) (flat_map (foreign_of x.table_name) x.columns)

abbrev pub gives : Dialect → CreateTable → List Statement
gives d x = creates d x ∷ []

-- the table as stated is there, without rows and indexes, its next number being 1; the columns of its key are NOT NULL
abbrev pub table_made : Dialect → CreateTable → Table
table_made d x = record {
  columns = map (key_column (key_of d x.table_name x.columns)) (map column_of (map def_of x.columns));
  key = key_of d x.table_name x.columns;
  uniques = flat_map (unique_of x.table_name) x.columns;
  foreign = flat_map (foreign_of x.table_name) x.columns;
  indexes = [];
  next = 1;
  rows = [];
}

abbrev pub becomes : Dialect → CreateTable → Catalogue → Catalogue
becomes d x c = with_new c x.table_name (table_made d x)

abbrev pub effect : Dialect → CreateTable → Catalogue → Result Catalogue Reason
effect = effect_of gives becomes

-- there was no such table, so it can always go
abbrev pub is_fresh : Dialect → CreateTable → Catalogue → Bool
is_fresh d x c = true

abbrev pub inverse : Dialect → CreateTable → Option (List Statement)
inverse d x = Some (statement.DropTable x.table_name ∷ [])

-- its canonical text

abbrev pub constraints_rows : CreatedConstraints → List Row
constraints_rows cs =
    (codes "primaryKey", option_map (λ b. truth b) cs.primary_key)
    ∷ (codes "primaryKeyName", option_map (λ n. text n) cs.primary_key_name)
    ∷ (codes "nullable", option_map (λ b. truth b) cs.nullable)
    ∷ (codes "unique", option_map (λ b. truth b) cs.unique)
    ∷ (codes "uniqueConstraintName", option_map (λ n. text n) cs.unique_constraint_name)
    ∷ (codes "references", option_map (λ r. text r.text) cs.references)
    ∷ (codes "foreignKeyName", option_map (λ n. text n) cs.foreign_key_name)
    ∷ []

abbrev pub column_rows : CreatedColumn → List Row
column_rows x =
    ((codes "name", Some (text x.name)) ∷ (codes "type", Some (kind_value x.kind)) ∷ (codes "autoIncrement", option_map (λ b. truth b) x.auto_increment) ∷ [])
    ++ (default_rows x.default_value
    ++ ((codes "constraints", option_map (λ cs. map_of (pairs_of (constraints_rows cs))) x.constraints) ∷ []))

abbrev pub rows : CreateTable → List Row
rows x = (codes "tableName", Some (text (text_of x.table_name))) ∷ (codes "columns", Some (list (maps column_rows x.columns))) ∷ (codes "schemaName", schema_row x.table_name) ∷ []

abbrev pub canonical_of : CreateTable → CanonicalChange
canonical_of x = change_of (codes "createTable") (rows x)
