-- The statements of the tracking tables.
use Rattle.std.specs.Option.{option_and_then, option_map}
use Rattle.std.specs.Prelude.{Err, List, None, Ok, Option, Result, Some, [], if◌then◌else◌, is_some, map, pos, ℕ, ℤ, ◌∷◌}
use Rattle.lq_base.specs.declared.dialect.Dialect.{Dialect}
use Rattle.lq_base.specs.declared.identity.Identity.{Identity}
use Rattle.lq_base.specs.declared.literal.Literal.{Literal}
use Rattle.lq_base.specs.declared.literal.Literal.TheVariants as literal
use Rattle.lq_base.specs.declared.reason.Reason.{Reason}
use Rattle.lq_base.specs.declared.tracking.Lock.{Lock}
use Rattle.lq_base.specs.declared.tracking.Tracked.{Tracked}
use Rattle.lq_base.specs.declared.value.Value.{Value}
use Rattle.lq_model.specs.Catalogue.{Catalogue, table_of}
use Rattle.lq_model.specs.Views.{answer}
use Rattle.lq_model.specs.declared.caller.By.TheVariants.{Program}
use Rattle.lq_model.specs.declared.query.Answered.{Answered}
use Rattle.lq_model.specs.declared.query.Query.{Query}
use Rattle.lq_model.specs.declared.query.Wanted.TheVariants as wanted
use Rattle.lq_model.specs.declared.statement.Statement.{Statement}
use Rattle.lq_model.specs.declared.statement.Statement.TheVariants.{CreateTable, Delete, Insert, Update}
use Rattle.lq_model.specs.declared.test.Op.TheVariants.{Eq}
use Rattle.lq_model.specs.declared.test.Operand.TheVariants as operand
use Rattle.lq_model.specs.declared.test.Test.{Test}
use Rattle.lq_model.specs.declared.test.Test.TheVariants.{And, Compare}
use Rattle.lq_track.specs.Database.{in_run_order, rows_in}
use Rattle.lq_track.specs.Lock.{free, lock_column, lock_key, lock_name, lock_order, lock_table, lock_value, taken}
use Rattle.lq_track.specs.Log.{again_order, identity_of, log_column, log_name, log_order, log_set, log_table, log_value}
use Rattle.lq_track.specs.declared.lock_column.LockColumn.{LockColumn}
use Rattle.lq_track.specs.declared.lock_column.LockColumn.TheVariants as lock
use Rattle.lq_track.specs.declared.log_column.LogColumn.{LogColumn}
use Rattle.lq_track.specs.declared.log_column.LogColumn.TheVariants as log

-- the column holds the literal
abbrev pub holds : List ℕ → Literal → Test
holds column value = Compare Eq (operand.Column column) (operand.Literal value)

abbrev pub log_holds : LogColumn → List ℕ → Test
log_holds c text = holds (log_name c) (literal.Text text)

-- the test that only the row of the changeset meets
abbrev pub row_test : Identity → Test
row_test of = And (And (log_holds log.Id of.id) (log_holds log.Author of.author)) (log_holds log.Filename of.file)

-- the test that the lock's row meets
abbrev pub lock_test : Test
lock_test = holds (lock_name lock.Id) (literal.Int (pos 1))

-- makes the table of rows
abbrev pub log_made : Statement
log_made = CreateTable log_table (map log_column log_order) None [] []

-- makes the table of the lock
abbrev pub lock_made : Dialect → Statement
lock_made d = CreateTable lock_table (map lock_column lock_order) (Some (lock_key d)) [] []

-- makes the lock's row, free
abbrev pub lock_row_made : Statement
lock_row_made = Insert lock_table (map lock_name lock_order) (map (lock_value free) lock_order)

abbrev pub tables : Dialect → List Statement
tables d = log_made ∷ lock_made d ∷ lock_row_made ∷ []

abbrev pub row_inserted : Tracked → Statement
row_inserted row = Insert log_table (map log_name log_order) (map (log_value row) log_order)

-- the row of a changeset that runs again
abbrev pub row_again : Tracked → Statement
row_again row = Update log_table (map (log_set row) again_order) (Some (row_test (identity_of row)))

abbrev pub row_deleted : Identity → Statement
row_deleted of = Delete log_table (Some (row_test of))

-- the row's column becomes the text
abbrev pub row_set : LogColumn → List ℕ → Identity → Statement
row_set c text of = Update log_table ((log_name c, literal.Text text) ∷ []) (Some (row_test of))

abbrev pub tag_set : Identity → List ℕ → Statement
tag_set of tag = row_set log.Tag tag of

abbrev pub sum_filled : Identity → List ℕ → Statement
sum_filled of sum = row_set log.Md5Sum sum of

-- each row's sum becomes null
abbrev pub sums_cleared : Statement
sums_cleared = Update log_table ((log_name log.Md5Sum, literal.Null) ∷ []) None

-- the columns of the lock's row become those of the lock
abbrev pub lock_set : List LockColumn → Lock → Statement
lock_set columns l = Update lock_table (map (λ c. (lock_name c, lock_value l c)) columns) (Some lock_test)

abbrev pub lock_taken : ℤ → List ℕ → Statement
lock_taken at by = lock_set (lock.Locked ∷ lock.LockGranted ∷ lock.LockedBy ∷ []) (taken at by)

abbrev pub lock_freed : Statement
lock_freed = lock_set (lock.Locked ∷ lock.LockGranted ∷ lock.LockedBy ∷ []) free

-- who holds the lock, and at what statement
abbrev pub lock_marked : List ℕ → Statement
lock_marked by = Update lock_table ((lock_name lock.LockedBy, literal.Text by) ∷ []) (Some lock_test)

-- What the table of rows is asked for one changeset's.

abbrev pub rows_query : Identity → Query
rows_query of = record { wanted = wanted.All; table = log_table; test = Some (row_test of) }

abbrev pub answered_rows : Result Answered Reason → Option (List (List Value))
answered_rows (Ok answered) = Some answered.rows
answered_rows (Err reason) = None

-- the rows of the changeset in run order: none where there is no table, and nothing where they cannot be had or read
abbrev pub rows_asked : Identity → Catalogue → Option (List Tracked)
rows_asked of c =
    if is_some (table_of c log_table)
    then option_map in_run_order (option_and_then rows_in (answered_rows (answer Program (rows_query of) c)))
    else Some []
