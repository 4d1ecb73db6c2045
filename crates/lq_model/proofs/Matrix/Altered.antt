-- Worked examples: the whole table after a column, a constraint or an index is added, changed, renamed or dropped.
use Rattle.std.specs.Prelude.{Bool, List, None, Option, Some, [], codes, false, pos, refl, true, ℤ, ◌∷◌}
use Rattle.lq_base.specs.Number.{number_of}
use Rattle.lq_base.specs.Value.{into_kind, is_value_of}
use Rattle.lq_base.specs.declared.dialect.Dialect.TheVariants.{Mysql, Postgresql}
use Rattle.lq_base.specs.declared.kind.Kind.TheVariants as kind
use Rattle.lq_base.specs.declared.literal.Literal.TheVariants as literal
use Rattle.lq_base.specs.declared.name.Name.{Name}
use Rattle.lq_base.specs.declared.value.Value.{Value}
use Rattle.lq_base.specs.declared.value.Value.TheVariants as value
use Rattle.lq_model.specs.Catalogue.{Catalogue}
use Rattle.lq_model.specs.Plan.{decide}
use Rattle.lq_model.specs.declared.column.Column.{Column}
use Rattle.lq_model.specs.declared.constraint.ForeignKey.{ForeignKey}
use Rattle.lq_model.specs.declared.constraint.Key.{Key}
use Rattle.lq_model.specs.declared.constraint.Unique.{Unique}
use Rattle.lq_model.specs.declared.index.Index.{Index}
use Rattle.lq_model.specs.declared.statement.Statement.TheVariants.{AddColumn, AddForeignKey, AddPrimaryKey, AddUnique, CreateIndex, DropColumn, DropConstraint, DropDefault, DropForeignKey, DropIndex, DropNotNull, DropPrimaryKey, DropUnique, Modify, RenameColumn, SetDefault, SetNotNull}
use Rattle.lq_model.proofs.ExampleWorld.{another, at, child, children, code, column, def, foreign_to, id, index_on, key_on, one_child, parent, parents, text, two_parents, unique_on, up, world}
use Rattle.lq_model.proofs.Matrix.Tables.{Gives, Leaves, of_tables, plain, table}

-- a row of numbers
abbrev row : ℤ → ℤ → ℤ → List Value
row x y z = value.Int x ∷ value.Int y ∷ value.Int z ∷ []

abbrev two_rows : List (List Value)
two_rows = row (pos 1) (pos 2) (pos 3) ∷ row (pos 4) (pos 5) (pos 6) ∷ []

-- a table of three columns and two rows, whose next number is 7
abbrev rows_of : List Column → List (List Value) → Catalogue
rows_of columns rows = of_tables ((another, record (table columns None (unique_on (codes "u") (at ∷ []) ∷ []) [] [] rows) { next = 7 }) ∷ (parent, parents two_parents) ∷ [])

abbrev threes : List Column
threes = plain id kind.Int ∷ column code kind.Int true (Some (value.Int (pos 9))) false ∷ column at kind.Int false None false ∷ []

abbrev start : Catalogue
start = rows_of threes two_rows

-- the columns with another one in the middle
abbrev with_code : Column → Catalogue
with_code c = rows_of (plain id kind.Int ∷ c ∷ column at kind.Int false None false ∷ []) two_rows

-- a new column stands at the end, and each row has its default or null there; a dropped one is gone with its values
pub columns_added_and_dropped :
    Leaves start (AddColumn another (record (def up kind.Text (Some (text (codes "x")))) { nullable = false }))
    (rows_of (plain id kind.Int ∷ column code kind.Int true (Some (value.Int (pos 9))) false ∷ column at kind.Int false None false ∷ column up kind.Text false (Some (value.Text (codes "x"))) false ∷ [])
    ((value.Int (pos 1) ∷ value.Int (pos 2) ∷ value.Int (pos 3) ∷ value.Text (codes "x") ∷ []) ∷ (value.Int (pos 4) ∷ value.Int (pos 5) ∷ value.Int (pos 6) ∷ value.Text (codes "x") ∷ []) ∷ []))
    × Leaves start (AddColumn another (def up kind.Int None))
    (rows_of (plain id kind.Int ∷ column code kind.Int true (Some (value.Int (pos 9))) false ∷ column at kind.Int false None false ∷ plain up kind.Int ∷ [])
    ((value.Int (pos 1) ∷ value.Int (pos 2) ∷ value.Int (pos 3) ∷ value.Null ∷ []) ∷ (value.Int (pos 4) ∷ value.Int (pos 5) ∷ value.Int (pos 6) ∷ value.Null ∷ []) ∷ []))
    × Leaves start (DropColumn another code)
    (rows_of (plain id kind.Int ∷ column at kind.Int false None false ∷ []) ((value.Int (pos 1) ∷ value.Int (pos 3) ∷ []) ∷ (value.Int (pos 4) ∷ value.Int (pos 6) ∷ []) ∷ []))
unfolding decide into_kind
columns_added_and_dropped = ((refl, refl), (refl, refl), (refl, refl))

-- a column in its place: a default is a value of the column's kind, null among them; nothing else changes, but that Modify clears default and numbering
pub columns_changed :
    Gives Postgresql start (SetNotNull another code) (with_code (column code kind.Int false (Some (value.Int (pos 9))) false)) 0
    × Gives Postgresql (with_code (column code kind.Int false None false)) (DropNotNull another code) (with_code (plain code kind.Int)) 0
    × Leaves start (SetDefault another code (text (codes "8"))) (with_code (column code kind.Int true (Some (value.Int (pos 8))) false))
    × Leaves start (SetDefault another code literal.Null) (with_code (column code kind.Int true (Some value.Null) false))
    × Leaves start (DropDefault another code) (with_code (plain code kind.Int))
    × Leaves (with_code (plain code kind.Int)) (DropDefault another code) (with_code (plain code kind.Int))
    × Gives Mysql start (Modify another code kind.BigInt false) (with_code (column code kind.BigInt false None false)) 0
    × Gives Mysql start (Modify another code kind.Int true) (with_code (plain code kind.Int)) 0
    × Gives Mysql world (Modify child id kind.BigInt false) (record world { tables = (child, record (children one_child 2 false (codes "pk_child")) { columns = column id kind.BigInt false None false ∷ plain up kind.Int ∷ [] }) ∷ (parent, parents two_parents) ∷ [] }) 0
unfolding decide into_kind is_value_of number_of
columns_changed = (refl, refl, (refl, refl), (refl, refl), (refl, refl), (refl, refl), refl, refl, refl)

-- a column's new name stands in the key, unique constraints, indexes and foreign keys of its table, and in the targets of whatever foreign key names its table; a column of that name in another table keeps it
abbrev tied : Name → Name → Catalogue
tied a b = of_tables (
    (child, table (plain id kind.Int ∷ plain up kind.Int ∷ []) None (unique_on (codes "cu") (id ∷ up ∷ []) ∷ []) (foreign_to (codes "f") (up ∷ id ∷ []) parent (a ∷ b ∷ []) false ∷ foreign_to (codes "g") (id ∷ up ∷ []) child (id ∷ up ∷ []) false ∷ []) [] [])
    ∷ (parent, table (column a kind.Int false None false ∷ column b kind.Int false None false ∷ []) (Some (key_on (codes "PRIMARY") (a ∷ b ∷ []))) (unique_on (codes "u") (b ∷ a ∷ []) ∷ unique_on (codes "v") (b ∷ []) ∷ []) (foreign_to (codes "h") (b ∷ a ∷ []) parent (a ∷ b ∷ []) true ∷ []) (index_on (codes "i") (b ∷ a ∷ []) false ∷ []) [])
    ∷ [])

pub columns_renamed :
    Leaves (tied id up) (RenameColumn parent id another) (tied another up)
    × Leaves (tied id up) (RenameColumn parent up another) (tied id another)
    × Leaves start (RenameColumn another code up) (with_code (column up kind.Int true (Some (value.Int (pos 9))) false))
unfolding decide
columns_renamed = ((refl, refl), (refl, refl), (refl, refl))

-- a table with two of all, but one key
abbrev u : Unique
u = unique_on (codes "u") (id ∷ [])

abbrev v : Unique
v = unique_on (codes "v") (code ∷ [])

abbrev f : ForeignKey
f = foreign_to (codes "f") (id ∷ []) parent (id ∷ []) false

abbrev g : ForeignKey
g = foreign_to (codes "g") (id ∷ []) parent (id ∷ []) true

abbrev i : Index
i = index_on (codes "i") (id ∷ []) false

abbrev j : Index
j = index_on (codes "j") (id ∷ code ∷ []) true

-- `id` and `code` are NOT NULL where a key made them so
abbrev parts : Bool → Option Key → List Unique → List ForeignKey → List Index → Catalogue
parts nullable key uniques foreign indexes = of_tables (
    (another, table (column id kind.Int nullable None false ∷ column code kind.Int nullable None false ∷ plain at kind.Int ∷ []) key uniques foreign indexes (row (pos 1) (pos 2) (pos 3) ∷ []))
    ∷ (parent, parents two_parents)
    ∷ [])

abbrev key : Key
key = key_on (codes "PRIMARY") (code ∷ id ∷ [])

-- a key makes its columns NOT NULL; what is new goes to the end of its list
pub constraints_added :
    Leaves (parts true None (u ∷ []) (f ∷ []) (i ∷ [])) (AddPrimaryKey another key) (parts false (Some key) (u ∷ []) (f ∷ []) (i ∷ []))
    × Leaves (parts true None (u ∷ []) (f ∷ []) (i ∷ [])) (AddUnique another v) (parts true None (u ∷ v ∷ []) (f ∷ []) (i ∷ []))
    × Leaves (parts true None (u ∷ []) (f ∷ []) (i ∷ [])) (AddForeignKey another g) (parts true None (u ∷ []) (f ∷ g ∷ []) (i ∷ []))
    × Leaves (parts true None (u ∷ []) (f ∷ []) (i ∷ [])) (CreateIndex another j) (parts true None (u ∷ []) (f ∷ []) (i ∷ j ∷ []))
unfolding decide
constraints_added = ((refl, refl), (refl, refl), (refl, refl), (refl, refl))

-- what is named goes and all else stays, the NOT NULL of a key's columns too
abbrev full : Catalogue
full = parts false (Some key) (u ∷ v ∷ []) (f ∷ g ∷ []) (i ∷ j ∷ [])

pub constraints_dropped :
    Gives Postgresql full (DropConstraint another (codes "PRIMARY")) (parts false None (u ∷ v ∷ []) (f ∷ g ∷ []) (i ∷ j ∷ [])) 0
    × Gives Postgresql full (DropConstraint another (codes "u")) (parts false (Some key) (v ∷ []) (f ∷ g ∷ []) (i ∷ j ∷ [])) 0
    × Gives Postgresql full (DropConstraint another (codes "g")) (parts false (Some key) (u ∷ v ∷ []) (f ∷ []) (i ∷ j ∷ [])) 0
    × Gives Postgresql full (DropIndex (codes "i") None) (parts false (Some key) (u ∷ v ∷ []) (f ∷ g ∷ []) (j ∷ [])) 0
    × Gives Mysql full (DropPrimaryKey another) (parts false None (u ∷ v ∷ []) (f ∷ g ∷ []) (i ∷ j ∷ [])) 0
    × Gives Mysql full (DropUnique another (codes "v")) (parts false (Some key) (u ∷ []) (f ∷ g ∷ []) (i ∷ j ∷ [])) 0
    × Gives Mysql full (DropForeignKey another (codes "f")) (parts false (Some key) (u ∷ v ∷ []) (g ∷ []) (i ∷ j ∷ [])) 0
    × Gives Mysql full (DropIndex (codes "j") (Some another)) (parts false (Some key) (u ∷ v ∷ []) (f ∷ g ∷ []) (i ∷ [])) 0
unfolding decide
constraints_dropped = (refl, refl, refl, refl, refl, refl, refl, refl)
