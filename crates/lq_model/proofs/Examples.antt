-- Worked examples: the first reason against a statement, each table computed from the definitions.
use Rattle.std.specs.Prelude.{None, Ok, Some, [], codes, false, pos, refl, replicate, true, ◌∷◌, ◌≡◌}
use Rattle.lq_base.specs.Value.{into_kind}
use Rattle.lq_base.specs.declared.dialect.Dialect.TheVariants.{Mysql, Postgresql}
use Rattle.lq_base.specs.declared.kind.Kind.TheVariants as kind
use Rattle.lq_base.specs.declared.literal.Literal.TheVariants as literal
use Rattle.lq_base.specs.declared.reason.Reason.TheVariants.{Depends, Duplicate, Exists, HasChildren, Missing, NoParent, NullFound, Reserved, TooWide, WrongKind}
use Rattle.lq_model.specs.Plan.{decide, is_full}
use Rattle.lq_model.specs.Step.{step}
use Rattle.lq_model.specs.declared.caller.By.TheVariants.{Program, User}
use Rattle.lq_model.specs.declared.statement.Statement.TheVariants.{AddForeignKey, AddUnique, CreateTable, Delete, DropTable, Insert, Update}
use Rattle.lq_model.specs.declared.test.Op.TheVariants.{Eq, Lt}
use Rattle.lq_model.specs.declared.test.Operand.TheVariants as operand
use Rattle.lq_model.specs.declared.test.Test.{Compare, IsNull, NotNull}
use Rattle.lq_model.proofs.ExampleWorld.{another, at, cascading, child, child_row, children, code, def, foreign_to, id, key_on, none, number, numbered_def, parent, parent_row, parents, refusals, seq, text, two_parents, unique_on, up, view, where_id, world, world_of}

-- CREATE TABLE
pub create_table_refused : refusals User Postgresql world (
    CreateTable (codes "DataBaseChangeLog") (def id kind.Int None ∷ []) None [] []
    ∷ CreateTable another (def id kind.Int None ∷ []) None (unique_on (codes "databasechangeloglock") (id ∷ []) ∷ []) []
    ∷ CreateTable child (def id kind.Int None ∷ []) None [] (foreign_to (codes "f") (id ∷ []) none (id ∷ []) false ∷ [])
    ∷ CreateTable another (def id kind.Int None ∷ []) (Some (key_on (codes "k") (none ∷ []))) [] []
    ∷ CreateTable another (def id kind.Int None ∷ []) None [] (foreign_to (codes "f") (id ∷ []) view (code ∷ []) false ∷ [])
    ∷ CreateTable child (def id kind.Int None ∷ []) None [] []
    ∷ CreateTable seq (def id kind.Int None ∷ []) None [] []
    ∷ CreateTable (codes "pk_parent") (def id kind.Int None ∷ []) None [] []
    ∷ CreateTable another (def id kind.Int None ∷ def id kind.Text None ∷ []) None [] []
    ∷ CreateTable another (def id kind.Int None ∷ []) (Some (key_on another (id ∷ []))) [] []
    ∷ CreateTable another (def id kind.Int None ∷ []) (Some (key_on (codes "pk_DATABASECHANGELOGLOCK") (id ∷ []))) [] []
    ∷ CreateTable another (def id kind.Int None ∷ []) None [] (foreign_to (codes "f") (id ∷ []) parent (at ∷ []) false ∷ [])
    ∷ CreateTable another (numbered_def id kind.Int (Some (number (pos 1))) ∷ []) (Some (key_on (codes "k") (id ∷ []))) [] []
    ∷ CreateTable another (numbered_def id kind.Text None ∷ []) None [] []
    ∷ CreateTable another (numbered_def id kind.Text None ∷ []) (Some (key_on (codes "k") (id ∷ []))) [] []
    ∷ CreateTable another (def id kind.Int (Some (literal.Bool true)) ∷ []) None [] []
    ∷ CreateTable another (def id kind.Text None ∷ []) None [] (foreign_to (codes "f") (id ∷ []) parent (id ∷ []) false ∷ [])
    ∷ CreateTable another (def id kind.Int (Some (number (pos 2147483648))) ∷ []) None [] []
    ∷ CreateTable another (def id kind.Int None ∷ []) (Some (key_on (codes "k") (id ∷ []))) [] (foreign_to (codes "f") (id ∷ []) another (id ∷ []) false ∷ [])
    ∷ [])
    ≡ Some Reserved ∷ Some Reserved ∷ Some Missing ∷ Some Missing ∷ Some Missing ∷ Some Exists ∷ Some Exists ∷ Some Exists ∷ Some Exists ∷ Some Exists ∷ Some Exists
    ∷ Some Depends ∷ Some Depends ∷ Some Depends ∷ Some WrongKind ∷ Some WrongKind ∷ Some WrongKind ∷ Some TooWide ∷ None ∷ []
unfolding decide into_kind
create_table_refused = refl

-- the program may name the tracking tables and their key; under MySQL the key's name is in no space
pub tracking_refused :
    (refusals Program Postgresql world (CreateTable (codes "DATABASECHANGELOGLOCK") (def id kind.Int None ∷ []) (Some (key_on (codes "pk_DATABASECHANGELOGLOCK") (id ∷ []))) [] [] ∷ DropTable (codes "DATABASECHANGELOG") ∷ []) ≡ None ∷ Some Missing ∷ [])
    × (refusals User Mysql world (CreateTable (codes "pk_DATABASECHANGELOGLOCK") (def id kind.Int None ∷ []) None [] [] ∷ AddForeignKey child (foreign_to (codes "fk_up") (up ∷ []) parent (id ∷ []) false) ∷ []) ≡ None ∷ Some Exists ∷ [])
    × (refusals User Postgresql world (AddForeignKey child (foreign_to (codes "pk_DATABASECHANGELOGLOCK") (up ∷ []) parent (id ∷ []) false) ∷ AddUnique parent (unique_on (codes "pk_DATABASECHANGELOGLOCK") (at ∷ [])) ∷ []) ≡ None ∷ Some Exists ∷ [])
unfolding decide into_kind
tracking_refused = (refl, refl, refl)

-- DROP TABLE
pub drop_table_refused : refusals User Postgresql world (DropTable (codes "DATABASECHANGELOGLOCK") ∷ DropTable none ∷ DropTable view ∷ DropTable parent ∷ DropTable child ∷ []) ≡ Some Reserved ∷ Some Missing ∷ Some Missing ∷ Some Depends ∷ None ∷ []
unfolding decide
drop_table_refused = refl

-- INSERT: a missing column takes its default, or the next number, or null
pub insert_refused : refusals User Postgresql world (
    Insert (codes "databasechangelog") [] (number (pos 1) ∷ [])
    ∷ Insert none [] (number (pos 1) ∷ [])
    ∷ Insert view [] (number (pos 1) ∷ [])
    ∷ Insert parent (none ∷ none ∷ []) (number (pos 1) ∷ number (pos 1) ∷ [])
    ∷ Insert parent (id ∷ id ∷ []) (number (pos 1) ∷ number (pos 1) ∷ [])
    ∷ Insert parent (id ∷ code ∷ []) (number (pos 1) ∷ [])
    ∷ Insert parent (id ∷ []) (literal.Bool true ∷ [])
    ∷ Insert parent (id ∷ code ∷ []) (number (pos 2147483648) ∷ text (codes "c") ∷ [])
    ∷ Insert parent (code ∷ []) (text (codes "c") ∷ [])
    ∷ Insert parent (id ∷ code ∷ []) (number (pos 3) ∷ text (codes "b") ∷ [])
    ∷ Insert child (up ∷ []) (number (pos 3) ∷ [])
    ∷ Insert child (id ∷ []) (literal.Null ∷ [])
    ∷ Insert child (up ∷ []) (literal.Null ∷ [])
    ∷ [])
    ≡ Some Reserved ∷ Some Missing ∷ Some Missing ∷ Some Missing ∷ Some Exists ∷ Some WrongKind ∷ Some WrongKind ∷ Some TooWide ∷ Some NullFound ∷ Some Duplicate ∷ Some NoParent ∷ Some NullFound ∷ None ∷ []
unfolding decide into_kind
insert_refused = refl

-- a stated number leaves the next one under PostgreSQL, and makes it at least one more under MySQL
pub numbers_go_on :
    (step User Postgresql (Insert child (up ∷ []) (number (pos 1) ∷ [])) world ≡ Ok (world_of (children (child_row (pos 1) (pos 1) ∷ child_row (pos 2) (pos 1) ∷ []) 3 false (codes "pk_child")) (parents two_parents), 1))
    × (step User Postgresql (Insert child [] (number (pos 7) ∷ number (pos 1) ∷ [])) world ≡ Ok (world_of (children (child_row (pos 1) (pos 1) ∷ child_row (pos 7) (pos 1) ∷ []) 2 false (codes "pk_child")) (parents two_parents), 1))
    × (step User Mysql (Insert child [] (number (pos 7) ∷ number (pos 1) ∷ [])) world ≡ Ok (world_of (children (child_row (pos 1) (pos 1) ∷ child_row (pos 7) (pos 1) ∷ []) 8 false (codes "pk_child")) (parents two_parents), 1))
unfolding decide into_kind
numbers_go_on = (refl, refl, refl)

-- UPDATE: kinds are compared also where no row is taken
pub update_refused : refusals User Postgresql world (
    Update (codes "databasechangelog") ((id, number (pos 1)) ∷ []) None
    ∷ Update parent ((none, number (pos 1)) ∷ []) None
    ∷ Update parent ((id, number (pos 1)) ∷ []) (Some (IsNull (operand.Column none)))
    ∷ Update parent ((id, number (pos 1)) ∷ (id, number (pos 1)) ∷ []) None
    ∷ Update parent ((id, literal.Bool true) ∷ []) (where_id (pos 9))
    ∷ Update parent ((id, number (pos 9)) ∷ []) (Some (Compare Eq (operand.Column id) (operand.Column code)))
    ∷ Update parent ((id, number (pos 2147483648)) ∷ []) (where_id (pos 9))
    ∷ Update parent ((code, literal.Null) ∷ []) (where_id (pos 1))
    ∷ Update parent ((code, text (codes "b")) ∷ []) (where_id (pos 1))
    ∷ Update child ((up, number (pos 3)) ∷ []) None
    ∷ Update parent ((id, number (pos 3)) ∷ []) (where_id (pos 1))
    ∷ Update parent ((id, number (pos 3)) ∷ []) (where_id (pos 2))
    ∷ Update parent ((at, literal.Null) ∷ []) (Some (Compare Lt (operand.Column id) (operand.Literal literal.Null)))
    ∷ [])
    ≡ Some Reserved ∷ Some Missing ∷ Some Missing ∷ Some Exists ∷ Some WrongKind ∷ Some WrongKind ∷ Some TooWide ∷ Some NullFound ∷ Some Duplicate ∷ Some NoParent ∷ Some HasChildren ∷ None ∷ None ∷ []
unfolding decide into_kind
update_refused = refl

-- DELETE
pub delete_refused : refusals User Postgresql world (
    Delete (codes "databasechangeloglock") None
    ∷ Delete none None
    ∷ Delete parent (Some (NotNull (operand.Column none)))
    ∷ Delete parent (Some (Compare Eq (operand.Column at) (operand.Literal (literal.Bool true))))
    ∷ Delete parent (where_id (pos 1))
    ∷ Delete parent (where_id (pos 2))
    ∷ [])
    ≡ Some Reserved ∷ Some Missing ∷ Some Missing ∷ Some WrongKind ∷ Some HasChildren ∷ None ∷ []
unfolding decide into_kind
delete_refused = refl

-- a deletion takes along the rows that go with it; its count is of the named table
pub delete_cascades : step User Postgresql (Delete parent (where_id (pos 1))) cascading ≡ Ok (world_of (children [] 2 true (codes "pk_child")) (parents (parent_row (pos 2) (codes "b") ∷ [])), 1)
unfolding decide into_kind
delete_cascades = refl

-- 100,000 rows are not too many, 100,001 are
pub rows_at_most : (is_full (parents (replicate 100000 [])) ≡ false) × (is_full (parents (replicate 100001 [])) ≡ true)
rows_at_most = (refl, refl)
