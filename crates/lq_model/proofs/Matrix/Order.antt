-- Worked examples: where two reasons stand against a statement, the earlier one is told. Each pair stands in each statement that can have both; what is reserved comes before all in the examples of reserved names.
use Rattle.std.specs.Prelude.{Err, List, None, Some, [], codes, false, pos, refl, true, ◌∷◌, ◌≡◌}
use Rattle.lq_base.specs.Value.{into_kind, is_value_of}
use Rattle.lq_base.specs.declared.dialect.Dialect.TheVariants.{Mysql, Postgresql}
use Rattle.lq_base.specs.declared.kind.Kind.TheVariants as kind
use Rattle.lq_base.specs.declared.literal.Literal.{Literal}
use Rattle.lq_base.specs.declared.literal.Literal.TheVariants as literal
use Rattle.lq_base.specs.declared.reason.Reason.TheVariants.{Depends, Duplicate, Exists, HasChildren, Missing, NoParent, NullFound, TooWide, WrongKind}
use Rattle.lq_base.specs.declared.value.Value.{Value}
use Rattle.lq_base.specs.declared.value.Value.TheVariants as value
use Rattle.lq_model.specs.Catalogue.{Catalogue}
use Rattle.lq_model.specs.Plan.{decide}
use Rattle.lq_model.specs.Views.{answer}
use Rattle.lq_model.specs.declared.caller.By.TheVariants.{User}
use Rattle.lq_model.specs.declared.query.Wanted.TheVariants as wanted
use Rattle.lq_model.specs.declared.statement.Statement.{Statement}
use Rattle.lq_model.specs.declared.statement.Statement.TheVariants.{AddColumn, AddForeignKey, AddPrimaryKey, AddUnique, CreateIndex, CreateTable, CreateView, Delete, Insert, Modify, RenameColumn, RenameSequence, RenameTable, RenameView, SetDefault, Update}
use Rattle.lq_model.specs.declared.test.Op.TheVariants.{Eq}
use Rattle.lq_model.specs.declared.test.Operand.TheVariants as operand
use Rattle.lq_model.specs.declared.test.Test.{Compare, IsNull}
use Rattle.lq_model.proofs.ExampleWorld.{another, at, child, code, column, def, foreign_to, id, index_on, key_on, none, number, numbered_def, parent, seq, unique_on, up, view, where_id, world}
use Rattle.lq_model.proofs.Matrix.Tables.{Are, fresh, of_tables, plain, query_of, table}

-- too wide for a whole number of 32 bits
abbrev wide : Literal
wide = number (pos 2147483648)

abbrev wrong : Literal
wrong = literal.Bool true

-- what is missing before a name that is taken or a column that is named twice
pub missing_before_exists :
    Are (Some Missing) User Postgresql world (
    CreateTable parent (def id kind.Int None ∷ []) (Some (key_on (codes "pk_parent") (none ∷ []))) [] []
    ∷ RenameTable none child
    ∷ RenameColumn parent none code
    ∷ AddPrimaryKey parent (key_on (codes "k") (none ∷ []))
    ∷ AddUnique parent (unique_on (codes "uq_code") (none ∷ []))
    ∷ AddForeignKey child (foreign_to (codes "fk_up") (none ∷ []) parent (id ∷ []) false)
    ∷ AddForeignKey child (foreign_to (codes "fk_up") (up ∷ []) none (id ∷ []) false)
    ∷ CreateIndex parent (index_on (codes "ix_at") (none ∷ []) false)
    ∷ CreateView view (query_of wanted.All none None) false
    ∷ CreateView fresh (query_of (wanted.Columns (none ∷ none ∷ [])) parent None) false
    ∷ RenameView none view
    ∷ RenameSequence none seq
    ∷ Insert parent (none ∷ none ∷ []) (number (pos 1) ∷ number (pos 1) ∷ [])
    ∷ Update parent ((id, number (pos 1)) ∷ (id, number (pos 1)) ∷ []) (Some (IsNull (operand.Column none)))
    ∷ [])
    × Are (Some Missing) User Mysql world (RenameTable none child ∷ AddForeignKey child (foreign_to (codes "fk_up") (none ∷ []) parent (id ∷ []) false) ∷ AddUnique parent (unique_on (codes "ix_at") (none ∷ [])) ∷ [])
unfolding decide into_kind
missing_before_exists = (refl, refl)

-- and before what else would be against it
pub missing_before_others :
    Are (Some Missing) User Postgresql world (
    AddColumn none (numbered_def at kind.Int (Some wrong))
    ∷ SetDefault child none wrong
    ∷ CreateTable fresh (numbered_def id kind.Text (Some wrong) ∷ []) (Some (key_on (codes "k") (none ∷ []))) [] []
    ∷ CreateView fresh (query_of wanted.Count none None) false
    ∷ Insert parent (none ∷ []) []
    ∷ Update parent ((id, wrong) ∷ (none, wrong) ∷ []) None
    ∷ Delete parent (Some (Compare Eq (operand.Column none) (operand.Literal wrong)))
    ∷ [])
    × Are (Some Missing) User Mysql world (Modify none id kind.Boolean true ∷ Modify parent none kind.Boolean true ∷ [])
    × (answer User (query_of (wanted.Columns (none ∷ [])) parent (Some (Compare Eq (operand.Column id) (operand.Literal wrong)))) world ≡ Err Missing)
unfolding decide into_kind is_value_of
missing_before_others = (refl, refl, refl)

-- a name that is taken before what needs the thing
pub exists_before_depends :
    Are (Some Exists) User Postgresql world (
    CreateTable child (numbered_def id kind.Int None ∷ []) None [] []
    ∷ CreateTable fresh (def id kind.Int None ∷ []) None [] (foreign_to (codes "f") (id ∷ id ∷ []) parent (at ∷ code ∷ []) false ∷ [])
    ∷ RenameTable parent child
    ∷ AddColumn parent (numbered_def at kind.Int None)
    ∷ RenameColumn parent code at
    ∷ AddPrimaryKey parent (key_on (codes "k") (at ∷ []))
    ∷ AddForeignKey child (foreign_to (codes "fk_up") (up ∷ []) parent (at ∷ []) false)
    ∷ [])
    × Are (Some Exists) User Mysql world (RenameTable parent child ∷ RenameColumn parent code at ∷ AddForeignKey child (foreign_to (codes "fk_up") (up ∷ []) parent (at ∷ []) false) ∷ [])
unfolding decide into_kind
exists_before_depends = (refl, refl)

-- a name that is taken before what kinds and rows say
pub exists_before_others :
    Are (Some Exists) User Postgresql world (
    CreateTable child (def id kind.Int (Some wrong) ∷ []) None [] []
    ∷ CreateTable child (def id kind.Int (Some wide) ∷ []) None [] []
    ∷ AddColumn parent (def at kind.Int (Some wrong))
    ∷ AddColumn parent (record (def at kind.Int None) { nullable = false })
    ∷ AddUnique child (unique_on (codes "pk_child") (up ∷ []))
    ∷ AddForeignKey child (foreign_to (codes "fk_up") (up ∷ []) parent (code ∷ []) false)
    ∷ CreateView view (query_of wanted.Count parent None) false
    ∷ Insert parent (id ∷ id ∷ []) (wrong ∷ [])
    ∷ Update parent ((id, wrong) ∷ (id, wide) ∷ []) None
    ∷ [])
unfolding decide into_kind
exists_before_others = refl

-- parents that a foreign key of the child's targets, a key's column in them with a value that is no truth value
abbrev bound : Catalogue
bound = of_tables ((parent, table (column id kind.Int false None false ∷ []) (Some (key_on (codes "PRIMARY") (id ∷ []))) [] [] [] ((value.Int (pos 5) ∷ []) ∷ [])) ∷ [])

-- what needs the thing, or what a foreign key misses in the result, before kinds and rows
pub depends_before_others :
    Are (Some Depends) User Postgresql world (
    CreateTable fresh (numbered_def id kind.Text None ∷ []) None [] []
    ∷ CreateTable fresh (def id kind.Int None ∷ numbered_def code kind.Int (Some wide) ∷ []) (Some (key_on (codes "k") (code ∷ []))) [] []
    ∷ CreateTable fresh (def id kind.Int (Some wrong) ∷ []) None [] (foreign_to (codes "f") (id ∷ []) parent (at ∷ []) false ∷ [])
    ∷ CreateTable fresh (def id kind.Int (Some wide) ∷ []) None [] (foreign_to (codes "f") (id ∷ []) parent (at ∷ []) false ∷ [])
    ∷ AddColumn parent (numbered_def up kind.Int (Some wrong))
    ∷ AddColumn parent (numbered_def up kind.Int (Some wide))
    ∷ AddColumn parent (record (numbered_def up kind.Int None) { nullable = false })
    ∷ SetDefault child id wrong
    ∷ SetDefault child id wide
    ∷ AddForeignKey child (foreign_to (codes "f") (up ∷ []) parent (at ∷ []) false)
    ∷ AddForeignKey child (foreign_to (codes "f") (up ∷ []) parent (id ∷ code ∷ []) false)
    ∷ [])
    × Are (Some Depends) User Mysql bound (Modify parent id kind.Boolean true ∷ [])
    × Are (Some WrongKind) User Mysql bound (Modify parent id kind.Boolean false ∷ [])
    × Are (Some Depends) User Mysql world (Modify parent code kind.Int false ∷ Modify child up kind.Text false ∷ [])
unfolding decide into_kind is_value_of
depends_before_others = (refl, refl, refl, refl)

-- a table without constraints but NOT NULL of `code`, whose column `id` is of 64 bits and holds a number of more than 32, and a null
abbrev loose : Catalogue
loose = of_tables ((another, table (plain id kind.BigInt ∷ column code kind.Int false None false ∷ []) None [] [] [] ((value.Int (pos 2147483648) ∷ value.Int (pos 1) ∷ []) ∷ (value.Null ∷ value.Int (pos 1) ∷ []) ∷ [])) ∷ [])

-- a kind that is wrong before one that is too narrow, whichever stands first
pub wrong_before_wide :
    Are (Some WrongKind) User Postgresql loose (
    CreateTable fresh (def id kind.Int (Some wide) ∷ def code kind.Int (Some wrong) ∷ []) None [] []
    ∷ Insert another [] (number (pos 9223372036854775808) ∷ wrong ∷ [])
    ∷ Insert another [] (number (pos 9223372036854775808) ∷ [])
    ∷ Update another ((code, wide) ∷ (id, wrong) ∷ []) None
    ∷ Update another ((code, wide) ∷ []) (Some (Compare Eq (operand.Column id) (operand.Literal wrong)))
    ∷ [])
unfolding decide into_kind
wrong_before_wide = refl

-- what is wrong or too wide before a null
pub kinds_before_null :
    Are (Some WrongKind) User Postgresql loose (
    AddColumn another (record (def at kind.Int (Some wrong)) { nullable = false })
    ∷ Insert another [] (wrong ∷ literal.Null ∷ [])
    ∷ Insert another [] (number (pos 1) ∷ literal.Null ∷ literal.Null ∷ [])
    ∷ Update another ((code, literal.Null) ∷ (id, wrong) ∷ []) None
    ∷ [])
    × Are (Some TooWide) User Postgresql loose (
    AddColumn another (record (def at kind.Int (Some wide)) { nullable = false })
    ∷ Insert another [] (number (pos 9223372036854775808) ∷ literal.Null ∷ [])
    ∷ Update another ((code, literal.Null) ∷ (id, number (pos 9223372036854775808)) ∷ []) None
    ∷ [])
    × Are (Some WrongKind) User Mysql loose (Modify another id kind.Boolean false ∷ [])
    × Are (Some TooWide) User Mysql loose (Modify another id kind.Int false ∷ [])
    × Are (Some NullFound) User Mysql loose (Modify another id kind.BigInt false ∷ [])
unfolding decide into_kind is_value_of
kinds_before_null = (refl, refl, refl, refl, refl)

-- a row of three columns
abbrev row : Value → Value → Value → List Value
row x y z = x ∷ y ∷ z ∷ []

abbrev n : Value
n = value.Null

abbrev one : Value
one = value.Int (pos 1)

abbrev two : Value
two = value.Int (pos 2)

-- `id` is unique, `code` NOT NULL, and `at` has its parent in the same table's `id`; another table's rows have their parent 1 there too
abbrev tied : Catalogue
tied = of_tables (
    (another, table (plain id kind.Int ∷ column code kind.Int false None false ∷ plain at kind.Int ∷ []) None (unique_on (codes "u") (id ∷ []) ∷ []) (foreign_to (codes "fk_at") (at ∷ []) another (id ∷ []) false ∷ []) [] (row one one n ∷ row two one two ∷ []))
    ∷ (child, table (plain up kind.Int ∷ []) None [] (foreign_to (codes "fk_up") (up ∷ []) another (id ∷ []) false ∷ []) [] ((one ∷ []) ∷ []))
    ∷ [])

abbrev insertion : Literal → Literal → Literal → Statement
insertion x y z = Insert another [] (x ∷ y ∷ z ∷ [])

abbrev sets : Literal → Literal → Literal → Statement
sets x y z = Update another ((id, x) ∷ (code, y) ∷ (at, z) ∷ []) None

-- a null before twins, these before a row without parent, and this before another table's
pub rows_in_order :
    Are (Some NullFound) User Postgresql tied (
    insertion (number (pos 1)) literal.Null (number (pos 9))
    ∷ insertion literal.Null literal.Null (number (pos 9))
    ∷ sets (number (pos 9)) literal.Null literal.Null
    ∷ sets literal.Null literal.Null (number (pos 9))
    ∷ [])
    × Are (Some Duplicate) User Postgresql tied (
    insertion (number (pos 1)) (number (pos 1)) (number (pos 9))
    ∷ sets (number (pos 9)) (number (pos 1)) (number (pos 8))
    ∷ sets (number (pos 9)) (number (pos 1)) literal.Null
    ∷ [])
    × Are (Some NoParent) User Postgresql tied (
    insertion (number (pos 3)) (number (pos 1)) (number (pos 9))
    ∷ sets literal.Null (number (pos 1)) (number (pos 8))
    ∷ Update another ((id, number (pos 3)) ∷ (at, number (pos 1)) ∷ []) (where_id (pos 1))
    ∷ [])
    × Are (Some HasChildren) User Postgresql tied (
    sets literal.Null (number (pos 1)) literal.Null
    ∷ Update another ((id, number (pos 3)) ∷ []) (where_id (pos 1))
    ∷ [])
unfolding decide into_kind
rows_in_order = (refl, refl, refl, refl)

-- a null in the rows before twins in them, for a new key
pub null_before_twins :
    Are (Some NullFound) User Postgresql (of_tables ((another, table (plain id kind.Int ∷ plain code kind.Int ∷ []) None [] [] [] ((one ∷ n ∷ []) ∷ (one ∷ one ∷ []) ∷ (one ∷ one ∷ []) ∷ [])) ∷ [])) (AddPrimaryKey another (key_on (codes "k") (id ∷ code ∷ [])) ∷ [])
unfolding decide
null_before_twins = refl
