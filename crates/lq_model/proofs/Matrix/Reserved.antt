-- Worked examples: whose names are those of the tracking tables. A user's statement may have them as names of columns and in texts; the program's may have them wherever.
use Rattle.std.specs.Prelude.{Err, List, None, Some, [], codes, false, map, pos, refl, ◌∷◌, ◌≡◌}
use Rattle.lq_base.specs.Moment.{moment_of}
use Rattle.lq_base.specs.Value.{into_kind}
use Rattle.lq_base.specs.declared.dialect.Dialect.TheVariants.{Mysql, Postgresql}
use Rattle.lq_base.specs.declared.kind.Kind.TheVariants as kind
use Rattle.lq_base.specs.declared.name.Name.{Name}
use Rattle.lq_base.specs.declared.reason.Reason.TheVariants.{Missing, Reserved}
use Rattle.lq_model.specs.Catalogue.{Catalogue}
use Rattle.lq_model.specs.Plan.{decide}
use Rattle.lq_model.specs.Views.{answer}
use Rattle.lq_model.specs.declared.caller.By.TheVariants.{Program, User}
use Rattle.lq_model.specs.declared.query.Wanted.TheVariants as wanted
use Rattle.lq_model.specs.declared.statement.Statement.{Statement}
use Rattle.lq_model.specs.declared.statement.Statement.TheVariants.{AddColumn, AddForeignKey, AddPrimaryKey, AddUnique, CreateIndex, CreateSequence, CreateTable, CreateView, Delete, DropColumn, DropTable, Insert, RenameColumn, RenameSequence, RenameTable, RenameView, SetDefault, Update}
use Rattle.lq_model.specs.declared.test.Op.TheVariants.{Eq}
use Rattle.lq_model.specs.declared.test.Operand.TheVariants as operand
use Rattle.lq_model.specs.declared.test.Test.{Compare}
use Rattle.lq_model.proofs.ExampleWorld.{another, code, def, foreign_to, id, index_on, key_on, none, parent, seq, text, unique_on, view}
use Rattle.lq_model.proofs.Matrix.Tables.{Are, fresh, of_tables, plain, query_of, roomy, table}

abbrev spellings : List Name
spellings = codes "DATABASECHANGELOG" ∷ codes "databasechangelog" ∷ codes "DatabaseChangeLog" ∷ codes "DATABASECHANGELOGLOCK" ∷ codes "databasechangeloglock" ∷ codes "DatabaseChangeLogLock" ∷ []

-- other names are no such name, one in them neither
abbrev no_spellings : List Name
no_spellings = codes "DATABASECHANGELOGS" ∷ codes "DATABASE_CHANGELOG" ∷ codes "MYDATABASECHANGELOG" ∷ codes "DATABASECHANGELO" ∷ codes "pk_databasechangeloglock" ∷ []

abbrev made : Name → Statement
made n = CreateTable n (def id kind.Int None ∷ []) None [] []

pub spelled_in_any_case :
    Are (Some Reserved) User Postgresql (roomy None) (map made spellings)
    × Are (Some Reserved) User Mysql (roomy None) (map made spellings)
    × Are None Program Postgresql (roomy None) (map made spellings)
    × Are None User Postgresql (roomy None) (map made no_spellings)
unfolding decide into_kind
spelled_in_any_case = (refl, refl, refl, refl)

abbrev tracking : Name
tracking = codes "DATABASECHANGELOG"

-- as a column's name, and as a text
abbrev as_column : List Statement
as_column =
    CreateTable fresh (def tracking kind.Int None ∷ []) (Some (key_on (codes "k") (tracking ∷ []))) (unique_on (codes "u") (tracking ∷ []) ∷ []) []
    ∷ AddColumn another (def tracking kind.Int None)
    ∷ RenameColumn another code tracking
    ∷ SetDefault another code (text tracking)
    ∷ Update another ((code, text tracking) ∷ []) (Some (Compare Eq (operand.Column code) (operand.Literal (text tracking))))
    ∷ []

pub columns_may_have_it :
    Are None User Postgresql (roomy None) as_column
    × Are None User Mysql (roomy None) as_column
    × Are (Some Missing) User Postgresql (roomy None) (DropColumn another tracking ∷ Insert another (tracking ∷ []) (text tracking ∷ []) ∷ [])
unfolding decide into_kind moment_of
columns_may_have_it = (refl, refl, refl)

-- what the program says: each name is one as others are
abbrev names_it : List Statement
names_it =
    RenameTable another tracking ∷ RenameTable view tracking ∷ RenameView view tracking
    ∷ AddPrimaryKey another (key_on tracking (id ∷ []))
    ∷ AddUnique another (unique_on tracking (id ∷ []))
    ∷ AddForeignKey another (foreign_to tracking (id ∷ []) parent (id ∷ []) false)
    ∷ CreateIndex another (index_on tracking (id ∷ []) false)
    ∷ CreateView tracking (query_of wanted.All another None) false
    ∷ CreateSequence tracking (pos 1) (pos 1) ∷ RenameSequence seq tracking
    ∷ []

abbrev tracked : Catalogue
tracked = of_tables ((tracking, table (plain id kind.Text ∷ []) None [] [] [] []) ∷ [])

abbrev changes_it : List Statement
changes_it = Insert tracking [] (text (codes "1") ∷ []) ∷ Update tracking ((id, text (codes "1")) ∷ []) None ∷ Delete tracking None ∷ RenameTable tracking fresh ∷ DropTable tracking ∷ []

pub program_names_it :
    Are None Program Postgresql (roomy None) names_it
    × Are (Some Reserved) User Postgresql (roomy None) names_it
    × Are None Program Postgresql tracked changes_it
    × Are (Some Reserved) User Postgresql tracked changes_it
    × Are (Some Reserved) User Mysql tracked changes_it
    × (answer User (query_of (wanted.Columns (none ∷ [])) tracking None) tracked ≡ Err Reserved)
    × (answer User (query_of wanted.Count (codes "DatabaseChangeLogLock") None) tracked ≡ Err Reserved)
    × (answer Program (query_of (wanted.Columns (none ∷ [])) tracking None) tracked ≡ Err Missing)
unfolding decide into_kind
program_names_it = (refl, refl, refl, refl, refl, refl, refl, refl)
