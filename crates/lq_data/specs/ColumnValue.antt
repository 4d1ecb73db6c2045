-- Columns with values, what statements are of, and SQL texts as they are given.
use Rattle.std.specs.Option.{option_map, unwrap_or}
use Rattle.std.specs.Prelude.{Bool, List, Some, [], codes, false, map, true, ℕ, ◌&&◌, ◌++◌, ◌∷◌}
use Rattle.lq_base.specs.Name.{is_name}
use Rattle.lq_base.specs.Number.{if_there}
use Rattle.lq_base.specs.declared.dialect.Dialect.{Dialect}
use Rattle.lq_base.specs.declared.dialect.Dialect.TheVariants.{Mysql, Postgresql}
use Rattle.lq_base.specs.declared.literal.Literal.{Literal}
use Rattle.lq_base.specs.declared.literal.Literal.TheVariants as literal
use Rattle.lq_base.specs.declared.name.Name.{Name}
use Rattle.lq_data.specs.declared.column_value.ColumnValue.{ColumnValue}
use Rattle.lq_model.specs.Changes.{text}
use Rattle.lq_model.specs.TakesBack.{Row}
use Rattle.lq_model.specs.declared.statement.Statement.{Statement}
use Rattle.lq_model.specs.declared.statement.Statement.TheVariants.{AddColumn, CreateTable, Delete, DropColumn, DropDefault, DropNotNull, DropTable, Insert, Modify, RenameColumn, RenameTable, SetDefault, SetNotNull, Update}
use Rattle.lq_tree.specs.Given.{a_name}
use Rattle.lq_tree.specs.Keys.{Keys, fields, map_with, required, ◌⊛◌}
use Rattle.lq_tree.specs.Look.{Taken}
use Rattle.lq_tree.specs.Values.{is_given, literal_of}
use Rattle.lq_value_keys.specs.ValueKeys.{value_keys, value_rows}

-- A column with the value that it takes.

abbrev pub keys : Keys ColumnValue
keys =
    fields (λ name value. record { name = name; value = value })
    ⊛ required (codes "name") a_name
    ⊛ value_keys

unfoldable pub column_value : Taken ColumnValue
column_value = map_with (codes "remarks" ∷ []) keys

-- its name is a name, and its value can be written
abbrev pub is_column_value : ColumnValue → Bool
is_column_value x = is_name x.name && if_there is_given x.value

-- its value in a statement: null where none is stated
abbrev pub literal_in : ColumnValue → Literal
literal_in x = unwrap_or (option_map literal_of x.value) literal.Null

abbrev pub set_in : ColumnValue → Name × Literal
set_in x = (x.name, literal_in x)

-- of several columns in order

abbrev pub names_of : List ColumnValue → List Name
names_of xs = map (λ x. x.name) xs

abbrev pub literals_of : List ColumnValue → List Literal
literals_of xs = map literal_in xs

abbrev pub sets_of : List ColumnValue → List (Name × Literal)
sets_of xs = map set_in xs

-- in canonical text
abbrev pub column_rows : ColumnValue → List Row
column_rows x = ((codes "name", Some (text x.name)) ∷ []) ++ value_rows x.value

-- Statements by what they are of.

-- it is of a constraint, an index, a view or a sequence, and neither of a table, its columns or its rows
abbrev pub is_of_object : Statement → Bool
is_of_object (CreateTable t defs key uniques foreign) = false
is_of_object (DropTable t) = false
is_of_object (RenameTable t to) = false
is_of_object (AddColumn t def) = false
is_of_object (DropColumn t n) = false
is_of_object (RenameColumn t n to) = false
is_of_object (SetNotNull t n) = false
is_of_object (DropNotNull t n) = false
is_of_object (Modify t n k nullable) = false
is_of_object (SetDefault t n l) = false
is_of_object (DropDefault t n) = false
is_of_object (Insert t ns ls) = false
is_of_object (Update t sets test) = false
is_of_object (Delete t test) = false
is_of_object _ = true

-- SQL texts as they are given.

-- an SQL text as it was given, and the dialect for which it was read, which decides what it spells
pub record GivenSql : Type 0 where
  pub dialect : Dialect
  pub text : List ℕ

abbrev pub is_dialect : Dialect → Dialect → Bool
is_dialect Postgresql Postgresql = true
is_dialect Mysql Mysql = true
is_dialect _ _ = false
