-- Every deed is told by its statement.
use Rattle.std.specs.Prelude.{true, ◌≡◌}
use Rattle.lq_base.specs.declared.dialect.Dialect.{Dialect}
use Rattle.lq_model.proofs.Lists.{and_left, and_right}
use Rattle.lq_model.specs.Catalogue.{Catalogue}
use Rattle.lq_model.specs.Step.{step}
use Rattle.lq_model.specs.declared.caller.By.TheVariants.{Program}
use Rattle.lq_track.specs.Database.{Database}
use Rattle.lq_turns.specs.declared.deed.Deed.TheVariants.{Locks, Rows, Users}
use Rattle.lq_turns.specs.declared.deed.OnRows.{OnRows}
use Rattle.lq_turns.specs.declared.deed.OnRows.TheVariants.{Cleared, Deleted, Filled, Inserted, Renewed, Tagged}
use Rattle.lq_turns.specs.Deed.{done, row_statement}
use Rattle.lq_turns.specs.Schedule.{Agrees, StandsFor, StatementsTell, fits_rows}
use Rattle.lq_beside.proofs.LockDeeds.{locks_told}
use Rattle.lq_beside.proofs.RowDeeds.{cleared_told, deleted_told, filled_told, tagged_told}
use Rattle.lq_beside.proofs.RowTold.{inserted_told, renewed_told}
use Rattle.lq_beside.proofs.TakesNone.{takes_none}
use Rattle.lq_beside.proofs.Tell.{users_tell}

rows_told : (d : Dialect) (c : Catalogue) (database : Database) → StandsFor d c database → database.has_log ≡ true → (w : OnRows) → fits_rows w database.rows ≡ true → Agrees d (done d (Rows w) database) (step Program d (row_statement w) c)
rows_told d c database stands has (Inserted row) fit = inserted_told d c database stands has row fit
rows_told d c database stands has (Renewed row) fit = renewed_told d c database stands has row fit
rows_told d c database stands has (Deleted of) fit = deleted_told d c database stands has of
rows_told d c database stands has (Filled of sum) fit = filled_told d c database stands has of sum fit
rows_told d c database stands has (Tagged of tag) fit = tagged_told d c database stands has of tag fit
rows_told d c database stands has Cleared fit = cleared_told d c database stands has

pub statements_tell : (d : Dialect) → StatementsTell d
statements_tell d (Users s) c database stands fit = users_tell d (takes_none d) s c database stands fit
statements_tell d (Rows w) c database stands fit = rows_told d c database stands (and_left database.has_log _ fit) w (and_right database.has_log _ fit)
statements_tell d (Locks w) c database stands fit = locks_told d c database stands w fit
