-- Worked examples: the first reason against a statement that changes what is there, and what queries are answered.
use Rattle.std.specs.Prelude.{Err, None, Ok, Option, Some, [], codes, false, pos, refl, true, ◌∷◌, ◌≡◌}
use Rattle.lq_base.specs.Value.{into_kind, is_value_of}
use Rattle.lq_base.specs.declared.dialect.Dialect.TheVariants.{Mysql, Postgresql}
use Rattle.lq_base.specs.declared.kind.Kind.TheVariants as kind
use Rattle.lq_base.specs.declared.literal.Literal.TheVariants as literal
use Rattle.lq_base.specs.declared.name.Name.{Name}
use Rattle.lq_base.specs.declared.reason.Reason.TheVariants.{Depends, Exists, Missing, NoParent, NullFound, Reserved, TooWide, WrongKind}
use Rattle.lq_base.specs.declared.value.Value.TheVariants as value
use Rattle.lq_model.specs.Plan.{decide}
use Rattle.lq_model.specs.Views.{answer}
use Rattle.lq_model.specs.declared.caller.By.TheVariants.{Program, User}
use Rattle.lq_model.specs.declared.query.Query.{Query}
use Rattle.lq_model.specs.declared.query.Wanted.{Wanted}
use Rattle.lq_model.specs.declared.query.Wanted.TheVariants as wanted
use Rattle.lq_model.specs.declared.statement.Statement.TheVariants.{AddColumn, AddForeignKey, AddPrimaryKey, AddUnique, CreateIndex, CreateSequence, CreateView, DropColumn, DropConstraint, DropDefault, DropForeignKey, DropIndex, DropNotNull, DropPrimaryKey, DropSequence, DropUnique, DropView, Modify, RenameColumn, RenameSequence, RenameTable, RenameView, SetDefault, SetNotNull}
use Rattle.lq_model.specs.declared.test.Op.TheVariants.{Eq, Lt}
use Rattle.lq_model.specs.declared.test.Operand.TheVariants as operand
use Rattle.lq_model.specs.declared.test.Test.{Compare, Test}
use Rattle.lq_model.proofs.ExampleWorld.{another, at, child, code, def, foreign_to, id, index_on, key_on, none, number, numbered_def, parent, refusals, seq, unique_on, up, view, where_id, world}

-- ADD COLUMN, DROP COLUMN, RENAME COLUMN
pub columns_refused : refusals User Postgresql world (
    AddColumn none (def code kind.Int None)
    ∷ AddColumn parent (def code kind.Int None)
    ∷ AddColumn parent (numbered_def another kind.Int None)
    ∷ AddColumn parent (def another kind.Int (Some (literal.Bool true)))
    ∷ AddColumn parent (def another kind.Int (Some (number (pos 2147483648))))
    ∷ AddColumn parent (record (def another kind.Int None) { nullable = false })
    ∷ AddColumn parent (def another kind.Int None)
    ∷ DropColumn parent none
    ∷ DropColumn parent at
    ∷ DropColumn child up
    ∷ DropColumn parent id
    ∷ RenameColumn parent none another
    ∷ RenameColumn parent id code
    ∷ RenameColumn parent id another
    ∷ RenameColumn parent at another
    ∷ [])
    ≡ Some Missing ∷ Some Exists ∷ Some Depends ∷ Some WrongKind ∷ Some TooWide ∷ Some NullFound ∷ None ∷ Some Missing ∷ Some Depends ∷ Some Depends ∷ Some Depends ∷ Some Missing ∷ Some Exists ∷ Some Depends ∷ None ∷ []
unfolding decide into_kind
columns_refused = refl

-- SET NOT NULL, DROP NOT NULL, SET DEFAULT, DROP DEFAULT
pub changes_refused : refusals User Postgresql world (
    SetNotNull parent none ∷ SetNotNull parent at ∷ SetNotNull parent code
    ∷ DropNotNull none id ∷ DropNotNull parent id ∷ DropNotNull parent code
    ∷ SetDefault parent none literal.Null ∷ SetDefault child id (literal.Bool true) ∷ SetDefault child up (literal.Bool true) ∷ SetDefault child up (number (pos 2147483648)) ∷ SetDefault child up (number (pos 1))
    ∷ DropDefault parent none ∷ DropDefault parent code ∷ [])
    ≡ Some Missing ∷ Some NullFound ∷ None ∷ Some Missing ∷ Some Depends ∷ None ∷ Some Missing ∷ Some Depends ∷ Some WrongKind ∷ Some TooWide ∷ None ∷ Some Missing ∷ None ∷ []
unfolding decide into_kind
changes_refused = refl

-- MODIFY
pub modify_refused : refusals User Mysql world (
    Modify parent none kind.Int true ∷ Modify parent id kind.Int true ∷ Modify parent id kind.BigInt false ∷ Modify child up kind.BigInt true
    ∷ Modify parent code kind.Int false ∷ Modify child id kind.Boolean false ∷ Modify parent at kind.Moment false ∷ Modify parent at kind.Int true ∷ Modify child id kind.BigInt false ∷ [])
    ≡ Some Missing ∷ Some Depends ∷ Some Depends ∷ Some Depends ∷ Some Depends ∷ Some WrongKind ∷ Some NullFound ∷ None ∷ None ∷ []
unfolding decide is_value_of
modify_refused = refl

-- constraints and indexes
pub constraints_refused : refusals User Postgresql world (
    AddPrimaryKey parent (key_on another (none ∷ []))
    ∷ AddPrimaryKey parent (key_on another (id ∷ []))
    ∷ AddUnique parent (unique_on (codes "ix_at") (id ∷ []))
    ∷ AddUnique child (unique_on (codes "fk_up") (up ∷ []))
    ∷ AddUnique parent (unique_on another (id ∷ id ∷ []))
    ∷ AddForeignKey child (foreign_to (codes "pk_child") (up ∷ []) parent (id ∷ []) false)
    ∷ AddForeignKey child (foreign_to another (up ∷ []) parent (at ∷ []) false)
    ∷ AddForeignKey child (foreign_to another (up ∷ []) parent (code ∷ []) false)
    ∷ AddForeignKey parent (foreign_to another (id ∷ []) child (id ∷ []) false)
    ∷ DropConstraint parent (codes "ix_at")
    ∷ DropConstraint parent (codes "pk_parent")
    ∷ DropConstraint child (codes "pk_child")
    ∷ DropConstraint child (codes "fk_up")
    ∷ CreateIndex parent (index_on (codes "fk_up") (at ∷ []) true)
    ∷ CreateIndex parent (index_on (codes "uq_code") (at ∷ []) true)
    ∷ DropIndex (codes "uq_code") None
    ∷ DropIndex (codes "ix_at") None
    ∷ [])
    ≡ Some Missing ∷ Some Exists ∷ Some Exists ∷ Some Exists ∷ Some Exists ∷ Some Exists ∷ Some Depends ∷ Some WrongKind ∷ Some NoParent ∷ Some Missing ∷ Some Depends ∷ Some Depends ∷ None ∷ None ∷ Some Exists ∷ Some Missing ∷ None ∷ []
unfolding decide
constraints_refused = refl

pub mysql_constraints_refused : refusals User Mysql world (
    DropPrimaryKey none ∷ DropPrimaryKey child ∷ DropPrimaryKey parent
    ∷ DropUnique parent (codes "ix_at") ∷ DropUnique parent (codes "uq_code")
    ∷ DropForeignKey child (codes "pk_child") ∷ DropForeignKey child (codes "fk_up")
    ∷ AddForeignKey child (foreign_to (codes "fk_up") (up ∷ []) parent (id ∷ []) false)
    ∷ AddUnique parent (unique_on (codes "ix_at") (at ∷ [])) ∷ AddUnique child (unique_on (codes "ix_at") (up ∷ []))
    ∷ DropIndex (codes "ix_at") (Some child) ∷ DropIndex (codes "ix_at") (Some parent) ∷ [])
    ≡ Some Missing ∷ Some Depends ∷ Some Depends ∷ Some Missing ∷ None ∷ Some Missing ∷ None ∷ Some Exists ∷ Some Exists ∷ None ∷ Some Missing ∷ None ∷ []
unfolding decide
mysql_constraints_refused = refl

-- views, sequences and renamings
abbrev query_of : Wanted → Name → Option Test → Query
query_of w t test = record { wanted = w; table = t; test = test }

pub views_refused : refusals User Postgresql world (
    CreateView another (query_of wanted.All (codes "databasechangelog") None) false
    ∷ CreateView another (query_of wanted.All view None) false
    ∷ CreateView another (query_of (wanted.Columns (none ∷ [])) parent None) false
    ∷ CreateView view (query_of wanted.All parent None) false
    ∷ CreateView parent (query_of wanted.All parent None) true
    ∷ CreateView another (query_of (wanted.Columns (id ∷ id ∷ [])) parent None) false
    ∷ CreateView another (query_of wanted.Count parent None) false
    ∷ CreateView another (query_of wanted.All parent (Some (Compare Eq (operand.Column id) (operand.Column code)))) false
    ∷ CreateView view (query_of wanted.All parent None) true
    ∷ DropView parent ∷ DropView view
    ∷ RenameView parent another ∷ RenameView view seq ∷ RenameView view another
    ∷ RenameTable none child ∷ RenameTable child (codes "pk_parent") ∷ RenameTable parent another ∷ RenameTable child another ∷ RenameTable view another ∷ RenameTable child (codes "pk_DATABASECHANGELOGLOCK")
    ∷ CreateSequence view (pos 1) (pos 1) ∷ CreateSequence another (pos 1) (pos 1) ∷ DropSequence view ∷ DropSequence seq ∷ RenameSequence seq child ∷ RenameSequence seq another
    ∷ [])
    ≡ Some Reserved ∷ Some Missing ∷ Some Missing ∷ Some Exists ∷ Some Exists ∷ Some Exists ∷ Some WrongKind ∷ Some WrongKind ∷ None ∷ Some Missing ∷ None ∷ Some Missing ∷ Some Exists ∷ None
    ∷ Some Missing ∷ Some Exists ∷ Some Depends ∷ None ∷ None ∷ Some Exists ∷ Some Exists ∷ None ∷ Some Missing ∷ None ∷ Some Exists ∷ None ∷ []
unfolding decide
views_refused = refl

-- what queries are answered
pub queries_answered :
    (answer User (query_of wanted.Count parent None) world ≡ Ok (record { columns = 1; rows = (value.Int (pos 2) ∷ []) ∷ [] }))
    × (answer User (query_of wanted.All view None) world ≡ Ok (record { columns = 1; rows = (value.Text (codes "a") ∷ []) ∷ [] }))
    × (answer User (query_of (wanted.Columns (id ∷ id ∷ [])) parent (where_id (pos 2))) world ≡ Ok (record { columns = 2; rows = (value.Int (pos 2) ∷ value.Int (pos 2) ∷ []) ∷ [] }))
    × (answer User (query_of wanted.All (codes "DATABASECHANGELOG") None) world ≡ Err Reserved)
    × (answer Program (query_of wanted.All (codes "DATABASECHANGELOG") None) world ≡ Err Missing)
    × (answer User (query_of wanted.All parent (Some (Compare Lt (operand.Column id) (operand.Literal (literal.Bool true))))) world ≡ Err WrongKind)
queries_answered = (refl, refl, refl, refl, refl, refl)
