-- Worked examples: a user's name of a tracking table before every other reason, and reasons that stand on what tables hold.
use Rattle.std.specs.Prelude.{List, None, Some, [], codes, false, pos, refl, replicate, true, ◌∷◌, ◌≡◌}
use Rattle.lq_base.specs.Value.{into_kind, is_value_of}
use Rattle.lq_base.specs.declared.dialect.Dialect.TheVariants.{Mysql, Postgresql}
use Rattle.lq_base.specs.declared.kind.Kind.{Kind}
use Rattle.lq_base.specs.declared.kind.Kind.TheVariants as kind
use Rattle.lq_base.specs.declared.literal.Literal.TheVariants as literal
use Rattle.lq_base.specs.declared.name.Name.{Name}
use Rattle.lq_base.specs.declared.reason.Reason.TheVariants.{Depends, Duplicate, Exists, Missing, NullFound, Reserved, TooManyRows, TooWide, WrongKind}
use Rattle.lq_base.specs.declared.value.Value.{Value}
use Rattle.lq_base.specs.declared.value.Value.TheVariants as value
use Rattle.lq_model.specs.Constraints.{add_primary_key}
use Rattle.lq_model.specs.Catalogue.{Catalogue, Table}
use Rattle.lq_model.specs.Plan.{decide, is_loose}
use Rattle.lq_model.specs.declared.caller.By.TheVariants.{User}
use Rattle.lq_model.specs.declared.constraint.Unique.{Unique}
use Rattle.lq_model.specs.declared.query.Wanted.TheVariants as wanted
use Rattle.lq_model.specs.declared.statement.Statement.TheVariants.{AddColumn, AddForeignKey, AddPrimaryKey, AddUnique, CreateIndex, CreateSequence, CreateTable, CreateView, Delete, DropColumn, DropConstraint, DropDefault, DropForeignKey, DropIndex, DropNotNull, DropPrimaryKey, DropSequence, DropTable, DropUnique, DropView, Insert, Modify, RenameColumn, RenameSequence, RenameTable, RenameView, SetDefault, SetNotNull, Update}
use Rattle.lq_model.proofs.ExampleWorld.{another, child, children, column, def, foreign_to, id, index_on, key_on, none, parent, refusals, seq, unique_on, up, world}

abbrev tracking : Name
tracking = codes "DatabaseChangeLog"

-- under MySQL, but for what MySQL has no statement for: whatever else is against it, the user may not name the tracking table
pub reserved_first : refusals User Mysql world (
    CreateTable tracking (def id kind.Int None ∷ def id kind.Int None ∷ []) None [] []
    ∷ CreateTable another (def id kind.Int None ∷ []) (Some (key_on tracking (none ∷ []))) [] []
    ∷ CreateTable another (def id kind.Int None ∷ []) None (unique_on tracking (none ∷ []) ∷ []) []
    ∷ CreateTable another (def id kind.Int None ∷ []) None [] (foreign_to tracking (none ∷ []) parent (id ∷ []) false ∷ [])
    ∷ CreateTable another (def id kind.Int None ∷ []) None [] (foreign_to another (none ∷ []) tracking (id ∷ []) false ∷ [])
    ∷ DropTable tracking
    ∷ RenameTable tracking child ∷ RenameTable none tracking
    ∷ AddColumn tracking (def id kind.Int (Some (literal.Bool true)))
    ∷ DropColumn tracking id
    ∷ RenameColumn tracking id up
    ∷ SetDefault tracking id literal.Null ∷ DropDefault tracking id
    ∷ Modify tracking id kind.Int true
    ∷ AddPrimaryKey tracking (key_on another (id ∷ [])) ∷ AddPrimaryKey none (key_on tracking (id ∷ []))
    ∷ AddUnique tracking (unique_on another (id ∷ [])) ∷ AddUnique none (unique_on tracking (id ∷ []))
    ∷ AddForeignKey tracking (foreign_to another (up ∷ []) parent (id ∷ []) false)
    ∷ AddForeignKey none (foreign_to tracking (up ∷ []) parent (id ∷ []) false)
    ∷ AddForeignKey none (foreign_to another (up ∷ []) tracking (id ∷ []) false)
    ∷ DropPrimaryKey tracking ∷ DropUnique tracking another ∷ DropUnique none tracking ∷ DropForeignKey tracking another ∷ DropForeignKey none tracking
    ∷ CreateIndex tracking (index_on another (id ∷ []) false) ∷ CreateIndex none (index_on tracking (id ∷ []) false)
    ∷ DropIndex another (Some tracking) ∷ DropIndex tracking (Some none)
    ∷ CreateView tracking (record { wanted = wanted.All; table = none; test = None }) false
    ∷ CreateView another (record { wanted = wanted.All; table = tracking; test = None }) false
    ∷ DropView tracking
    ∷ Insert tracking [] [] ∷ Update tracking [] None ∷ Delete tracking None
    ∷ [])
    ≡ replicate 36 (Some Reserved)
unfolding decide into_kind is_value_of
reserved_first = refl

-- under PostgreSQL, what MySQL has no statement for
pub reserved_first_in_postgresql : refusals User Postgresql world (
    SetNotNull tracking id ∷ DropNotNull tracking id
    ∷ DropConstraint tracking another ∷ DropConstraint none tracking
    ∷ DropIndex tracking None
    ∷ RenameView tracking seq ∷ RenameView none tracking
    ∷ CreateSequence tracking (pos 1) (pos 1) ∷ DropSequence tracking ∷ RenameSequence tracking child ∷ RenameSequence none tracking
    ∷ [])
    ≡ replicate 11 (Some Reserved)
unfolding decide
reserved_first_in_postgresql = refl

-- a second key is Exists, although in its result a foreign key's targets would be no key either, which is Depends
pub second_key_exists :
    (refusals User Postgresql world (AddPrimaryKey parent (key_on another (codes "at" ∷ [])) ∷ []) ≡ Some Exists ∷ [])
    × (is_loose (add_primary_key User Postgresql parent (key_on another (codes "at" ∷ [])) world).result ≡ true)
unfolding decide
second_key_exists = (refl, refl)

-- one table of one column, without a key
abbrev plain : Kind → List Unique → List (List Value) → Table
plain k uniques rows = record { columns = column id k true None false ∷ []; key = None; uniques = uniques; foreign = []; indexes = []; next = 1; rows = rows }

abbrev alone : Kind → List (List Value) → Catalogue
alone k rows = record { tables = (another, plain k [] rows) ∷ []; views = []; sequences = [] }

-- 100,000 rows are not too many, 100,001 are
pub too_many_rows :
    (refusals User Postgresql (alone kind.Int (replicate 99999 (value.Null ∷ []))) (Insert another [] (literal.Null ∷ []) ∷ []) ≡ None ∷ [])
    × (refusals User Postgresql (alone kind.Int (replicate 100000 (value.Null ∷ []))) (Insert another [] (literal.Null ∷ []) ∷ []) ≡ Some TooManyRows ∷ [])
unfolding decide into_kind
too_many_rows = (refl, refl)

-- what a key, a unique constraint or a unique index finds in the rows that stand: nulls only in a key, and equal values
pub rows_found :
    (refusals User Postgresql (alone kind.Int ((value.Null ∷ []) ∷ (value.Null ∷ []) ∷ [])) (
    AddPrimaryKey another (key_on (codes "k") (id ∷ [])) ∷ AddUnique another (unique_on (codes "u") (id ∷ [])) ∷ CreateIndex another (index_on (codes "i") (id ∷ []) true) ∷ SetNotNull another id ∷ []) ≡ Some NullFound ∷ None ∷ None ∷ Some NullFound ∷ [])
    × (refusals User Postgresql (alone kind.Int ((value.Int (pos 1) ∷ []) ∷ (value.Int (pos 1) ∷ []) ∷ [])) (
    AddPrimaryKey another (key_on (codes "k") (id ∷ [])) ∷ AddUnique another (unique_on (codes "u") (id ∷ [])) ∷ CreateIndex another (index_on (codes "i") (id ∷ []) true) ∷ CreateIndex another (index_on (codes "i") (id ∷ []) false) ∷ []) ≡ Some Duplicate ∷ Some Duplicate ∷ Some Duplicate ∷ None ∷ [])
unfolding decide
rows_found = (refl, refl)

-- a value that the new kind is too narrow for; a number that a column counts past; a table's only column
pub kinds_found :
    (refusals User Mysql (alone kind.BigInt ((value.Int (pos 2147483648) ∷ []) ∷ [])) (Modify another id kind.Int true ∷ Modify another id kind.Boolean true ∷ Modify another id kind.BigInt true ∷ DropColumn another id ∷ []) ≡ Some TooWide ∷ Some WrongKind ∷ None ∷ Some Depends ∷ [])
    × (refusals User Postgresql (record { tables = (child, children [] 2147483648 false (codes "k")) ∷ (parent, plain kind.Int (unique_on (codes "u") (id ∷ []) ∷ []) []) ∷ []; views = []; sequences = [] })
    (Insert child (up ∷ []) (literal.Null ∷ []) ∷ []) ≡ Some TooWide ∷ [])
unfolding decide into_kind is_value_of
kinds_found = (refl, refl)

-- a unique constraint that a foreign key targets stays; what is named as there is not
pub uniques_found :
    (refusals User Mysql (record { tables = (child, children [] 1 false (codes "k")) ∷ (parent, plain kind.Int (unique_on (codes "u") (id ∷ []) ∷ []) []) ∷ []; views = []; sequences = [] })
    (DropUnique parent (codes "u") ∷ DropForeignKey child (codes "fk_up") ∷ []) ≡ Some Depends ∷ None ∷ [])
    × (refusals User Postgresql (record { tables = (child, children [] 1 false (codes "k")) ∷ (parent, plain kind.Int (unique_on (codes "u") (id ∷ []) ∷ []) []) ∷ []; views = []; sequences = [] })
    (DropConstraint parent (codes "u") ∷ DropNotNull none id ∷ DropDefault none id ∷ AddUnique none (unique_on another (id ∷ [])) ∷ AddForeignKey none (foreign_to another (id ∷ []) parent (id ∷ []) false)
    ∷ CreateIndex none (index_on another (id ∷ []) false) ∷ RenameColumn none id up ∷ DropColumn none id ∷ RenameSequence none another ∷ []) ≡ Some Depends ∷ replicate 8 (Some Missing))
unfolding decide
uniques_found = (refl, refl)
