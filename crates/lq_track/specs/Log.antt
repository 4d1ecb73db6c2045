-- The two tracking tables.
use Rattle.std.specs.Prelude.{List, [], codes, pos, ℕ, ◌∷◌}
use Rattle.lq_base.specs.Moment.{moment_text}
use Rattle.lq_base.specs.Name.{exec_text}
use Rattle.lq_base.specs.declared.identity.Identity.{Identity}
use Rattle.lq_base.specs.declared.kind.Kind.TheVariants.{Int, Moment, Varchar}
use Rattle.lq_base.specs.declared.literal.Literal.{Literal}
use Rattle.lq_base.specs.declared.literal.Literal.TheVariants as literal
use Rattle.lq_base.specs.declared.tracking.Tracked.{Tracked}
use Rattle.lq_model.specs.declared.column.ColumnDef.{ColumnDef}
use Rattle.lq_track.specs.Lock.{not_null, nullable, text_or_null}
use Rattle.lq_track.specs.declared.log_column.LogColumn.{LogColumn}
use Rattle.lq_track.specs.declared.log_column.LogColumn.TheVariants.{Author, Comments, Contexts, DateExecuted, DeploymentId, Description, ExecType, Filename, Id, Labels, Liquibase, Md5Sum, OrderExecuted, Tag}

-- The table DATABASECHANGELOG: its columns, and what a row of it holds in each.

unfoldable pub log_table : List ℕ
log_table = codes "DATABASECHANGELOG"

unfoldable pub log_column : LogColumn → ColumnDef
log_column Id = not_null (codes "ID") (Varchar 255)
log_column Author = not_null (codes "AUTHOR") (Varchar 255)
log_column Filename = not_null (codes "FILENAME") (Varchar 255)
log_column DateExecuted = not_null (codes "DATEEXECUTED") Moment
log_column OrderExecuted = not_null (codes "ORDEREXECUTED") Int
log_column ExecType = not_null (codes "EXECTYPE") (Varchar 10)
log_column Md5Sum = nullable (codes "MD5SUM") (Varchar 35)
log_column Description = nullable (codes "DESCRIPTION") (Varchar 255)
log_column Comments = nullable (codes "COMMENTS") (Varchar 255)
log_column Tag = nullable (codes "TAG") (Varchar 255)
log_column Liquibase = nullable (codes "LIQUIBASE") (Varchar 20)
log_column Contexts = nullable (codes "CONTEXTS") (Varchar 255)
log_column Labels = nullable (codes "LABELS") (Varchar 255)
log_column DeploymentId = nullable (codes "DEPLOYMENT_ID") (Varchar 10)

-- the table's order
unfoldable pub log_order : List LogColumn
log_order = Id ∷ Author ∷ Filename ∷ DateExecuted ∷ OrderExecuted ∷ ExecType ∷ Md5Sum ∷ Description ∷ Comments ∷ Tag ∷ Liquibase ∷ Contexts ∷ Labels ∷ DeploymentId ∷ []

-- what a row that runs again changes, in the order in which it is set
unfoldable pub again_order : List LogColumn
again_order = DateExecuted ∷ OrderExecuted ∷ ExecType ∷ Md5Sum ∷ DeploymentId ∷ []

abbrev pub log_name : LogColumn → List ℕ
log_name c = (log_column c).name

-- what the row holds in the column
unfoldable pub log_value : Tracked → LogColumn → Literal
log_value row Id = literal.Text row.id
log_value row Author = literal.Text row.author
log_value row Filename = literal.Text row.filename
log_value row DateExecuted = literal.Text (moment_text row.date)
log_value row OrderExecuted = literal.Int (pos row.order)
log_value row ExecType = literal.Text (exec_text row.exec)
log_value row Md5Sum = text_or_null row.md5sum
log_value row Description = literal.Text row.description
log_value row Comments = literal.Text row.comments
log_value row Tag = text_or_null row.tag
log_value row Liquibase = literal.Text row.tool
log_value row Contexts = literal.Text row.contexts
log_value row Labels = literal.Text row.labels
log_value row DeploymentId = literal.Text row.deployment

-- the column, and what it becomes
abbrev pub log_set : Tracked → LogColumn → List ℕ × Literal
log_set row c = (log_name c, log_value row c)

-- whose row it is
abbrev pub identity_of : Tracked → Identity
identity_of row = record { file = row.filename; id = row.id; author = row.author }
