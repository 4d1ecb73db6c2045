-- The headline: what a rollback goes back to, and what an update, a changelog-sync and a rehearsal leave.
use Rattle.std.specs.List.{last_or, list_all}
use Rattle.std.specs.Prelude.{Bool, List, None, Ok, Option, Some, [], false, length, map, option_and_then, true, ℕ, ◌≡◌, ◌⊎◌}
use Rattle.laws_repair.specs.Repair.{IsWhole, all_fit}
use Rattle.laws_undo.specs.Undone.{AreStopped, AreUndone, Gives, UpdateCut, turns_on}
use Rattle.lq_base.specs.declared.command.Command.TheVariants as command
use Rattle.lq_base.specs.declared.command.Target.{Target}
use Rattle.lq_base.specs.declared.command.Target.TheVariants.{Count}
use Rattle.lq_base.specs.declared.dialect.Dialect.{Dialect}
use Rattle.lq_base.specs.declared.dialect.Dialect.TheVariants.{Mysql, Postgresql}
use Rattle.lq_beside.specs.Replays.{IsTime}
use Rattle.lq_cli.specs.declared.line.Job.{Job}
use Rattle.lq_cli.specs.declared.line.Job.TheVariants.{ClearSums, Run as Runs, UndoUnrecorded, UpdateCount, UpdateTestingRollback, UpdateTo}
use Rattle.lq_commands.specs.Rehearsal.{came, counted_in}
use Rattle.lq_commands.specs.Scripts.{log_in, rollback_script, sets_in, update_script}
use Rattle.lq_commands.specs.Works.{status_by}
use Rattle.lq_commands.specs.declared.given.Given.{Given}
use Rattle.lq_entries.specs.Log.{entries_in}
use Rattle.lq_any.specs.declared.any_change.AnyChange.{AnyChange}
use Rattle.lq_model.specs.Sound.{IsSound}
use Rattle.lq_rehearsal.specs.Returns.{MayReturn}
use Rattle.lq_seen.specs.View.{any_meaning, view_log}
use Rattle.lq_store.specs.Journal.{Entry}
use Rattle.lq_tell.specs.declared.status.Status.{Status}
use Rattle.lq_tell.specs.declared.status.Status.TheVariants as status
use Rattle.lq_jobs.specs.Asks.{Asks, Files}
use Rattle.lq_jobs.specs.Bytes.{Holds, IsLeftOn, OnFile, Opens, most_bytes}
use Rattle.lq_jobs.specs.Jobs.{command_by, job_script}
use Rattle.lq_jobs.specs.Run.{HoldsSame, IsOutside, given_by, is_over}
use Rattle.lq_track.specs.Database.{Database}
use Rattle.lq_turns.specs.Deed.{Contents, all_done, contents_of, without_sum}
use Rattle.lq_turns.specs.Faults.{faults}
use Rattle.lq_turns.specs.Laws.{AreKnown, IsAtRest, at_rest, synced}
use Rattle.lq_turns.specs.Ran.{RanSince, Run, are_reversible}
use Rattle.lq_turns.specs.Script.{rows_kept, rows_undone, undo_turns, update_calls}
use Rattle.lq_turns.specs.Session.{left_by}
use Rattle.lq_turns.specs.Set.{Changelog}
use Rattle.lq_turns.specs.Settle.{Settled, updated}
use Rattle.lq_turns.specs.Stops.{IsSteady, Journal, joined}
use Rattle.lq_turns.specs.Trails.{IsStopped, is_by_count, rollback_to}
use Rattle.lq_turns.specs.Within.{IsBetween, RollbackStands, UpdateStands, none_gives_way}
use Rattle.lq_turns.specs.declared.deed.Deed.{Deed}
use Rattle.lq_turns.specs.declared.stamp.Stamp.{Stamp}
use Rattle.lq_turns.specs.declared.turn.Turn.{Turn}

-- the changelog as a command sees it
abbrev pub log_of : {words : List (List ℕ)} {files : Files} → Asks words files → Changelog AnyChange
log_of asks = view_log asks.line.options asks.changelog

-- A rollback to a point since which every changeset ran for the first time, each generated rollback of a change that was fresh, on a database that nobody else changed.
pub record GoesBack (words : List (List ℕ)) (files : Files) (told : Option (List ℕ)) : Type 0 where
  pub asks : Asks words files
  pub target : Target
  pub is_rollback : asks.line.job ≡ Runs (command.Rollback target)
  pub database : Database
  pub opens : Opens asks.line.options.dialect told database
  pub unlocked : database.lock.locked ≡ false
  pub faultless : faults (log_of asks).sets database.rows ≡ []
  -- the point: what stood there, and what ran since
  pub before : Contents
  pub ran : List (Run AnyChange)
  pub since : RanSince asks.line.options.dialect any_meaning before ran (contents_of database)
  pub reversible : are_reversible asks.line.options.dialect any_meaning ran before.users ≡ true
  pub known : AreKnown asks.line.options.dialect any_meaning (log_of asks).sets ran
  pub stays : rows_kept target database.rows ≡ Some (length before.rows)

-- A file holds a database with these contents, and its lock is free; or it is the database that was there before.
abbrev pub HoldsAtRest : Dialect → Option (List ℕ) → Database → Contents → Type 0
HoldsAtRest d told before contents = (now : Database) × Holds d told now × IsAtRest before contents now

-- the database of that point, its lock free, or as it was where nothing was called
abbrev pub GoneBack : {words : List (List ℕ)} {files : Files} {told : Option (List ℕ)} → GoesBack words files told → Status → Option (List ℕ) → Type 0
GoneBack back s after = is_over s ≡ true → HoldsAtRest back.asks.line.options.dialect after back.database back.before

-- it is done, perhaps without its text, or the journal is full
abbrev pub is_taken : Status → Bool
is_taken status.Done = true
is_taken status.WriteFault = true
is_taken (status.Full used next) = true
is_taken s = false

-- so it ends, unless a fault of the outside is met: nothing refuses it, and no statement is refused
abbrev pub IsTaken : Status → Type 0
IsTaken s = (is_taken s ≡ true) ⊎ IsOutside s

module _ {words : List (List ℕ)} {files : Files} (asks : Asks words files) (stamp : Stamp) (before : Option (List ℕ)) (s : Status) (after : Option (List ℕ)) where
  -- what an update that comes to its end leaves is what its changesets do one after another, its lock free, or as it was where nothing was called; an update by part is the update of that part
  abbrev pub HasUpdated : Type 0
  HasUpdated = OnFile asks.line.options.dialect before (λ database. (part : Given) → command_by asks.line.job (given_by asks stamp) database ≡ Some (command.Update, part) → is_over s ≡ true
      → HoldsAtRest part.options.dialect after database (updated part.options.dialect any_meaning part.stamp.reading (log_in part) (contents_of database)).contents)

  -- and a changelog-sync: a row for each selected changeset without one
  abbrev pub HasSynced : Type 0
  HasSynced = asks.line.job ≡ Runs command.Sync → OnFile asks.line.options.dialect before (λ database. is_over s ≡ true
      → HoldsAtRest asks.line.options.dialect after database (synced stamp.reading (log_of asks).sets (contents_of database)).contents)

  -- and a clear-checksums: each row without its checksum, and all else as it was
  abbrev pub HasCleared : Type 0
  HasCleared = asks.line.job ≡ ClearSums → OnFile asks.line.options.dialect before (λ database. is_over s ≡ true
      → Holds asks.line.options.dialect after (record database { rows = map without_sum database.rows }))

-- An update-testing-rollback whose update runs each changeset for the first time, so that all of it can be taken back, on a database that nobody else changed.
pub record Rehearses (words : List (List ℕ)) (files : Files) (stamp : Stamp) (told : Option (List ℕ)) : Type 0 where
  pub asks : Asks words files
  pub is_rehearsal : asks.line.job ≡ UpdateTestingRollback
  pub database : Database
  pub opens : Opens asks.line.options.dialect told database
  pub may : MayReturn (given_by asks stamp) database

-- it leaves what the update alone leaves
abbrev pub HasRehearsed : {words : List (List ℕ)} {files : Files} {stamp : Stamp} {told : Option (List ℕ)} → Rehearses words files stamp told → Status → Option (List ℕ) → Type 0
HasRehearsed {stamp = stamp} it s after = is_over s ≡ true
    → HoldsSame it.asks.line.options.dialect after (at_rest it.database (updated it.asks.line.options.dialect any_meaning stamp.reading (log_of it.asks) (contents_of it.database)).contents)

-- Commands that go on after stops, and what a stop of one leaves that holds the lock.

-- A steady update in postgresql, of a changelog or each time of the same part of one, that was stopped any number of times, under any names, with release-locks before and between. The first of all these began on this database.
pub record UpdateStopped {words : List (List ℕ)} {files : Files} (asks : Asks words files) (stamp : Stamp) (database : Database) : Type 0 where
  pub part : Given
  pub is_update : command_by asks.line.job (given_by asks stamp) database ≡ Some (command.Update, part)
  pub is_postgresql : part.options.dialect ≡ Postgresql
  pub start : Database
  pub sound : IsSound part.options.dialect start.users
  pub steady : IsSteady part.options.dialect any_meaning part.stamp (log_in part) (contents_of start)
  pub stopped : IsStopped start (λ who. update_calls part.options.dialect any_meaning (record part.stamp { who = who }) (log_in part)) database

-- A rollback in postgresql by tag or date, to a point since which every changeset ran for the first time and in one transaction, that was stopped any number of times, under any names, with release-locks before and between. The first of all these began on this database.
pub record RollbackStopped {words : List (List ℕ)} {files : Files} (asks : Asks words files) (stamp : Stamp) (database : Database) : Type 0 where
  pub target : Target
  pub is_rollback : asks.line.job ≡ Runs (command.Rollback target)
  pub not_by_count : is_by_count target ≡ false
  pub is_postgresql : asks.line.options.dialect ≡ Postgresql
  pub start : Database
  -- the point: what stood there, and what ran since
  pub before : Contents
  pub ran : List (Run AnyChange)
  pub since : RanSince asks.line.options.dialect any_meaning before ran (contents_of start)
  pub reversible : are_reversible asks.line.options.dialect any_meaning ran before.users ≡ true
  pub known : AreKnown asks.line.options.dialect any_meaning (log_of asks).sets ran
  pub stays : rows_kept target start.rows ≡ Some (length before.rows)
  pub whole : list_all (λ (x : Run AnyChange). x.set.in_transaction) ran ≡ true
  pub stopped : IsStopped start (λ who. rollback_to asks.line.options.dialect any_meaning (record stamp { who = who }) (log_of asks).sets target) database

-- what the changesets of an update do from a database on, without a stop
abbrev pub without_stop : Given → Database → Settled
without_stop part start = updated part.options.dialect any_meaning part.stamp.reading (log_in part) (contents_of start)

-- it ended with this status, or its text could not be written
abbrev pub EndsSo : Status → Status → Type 0
EndsSo wanted s = (s ≡ wanted) ⊎ (s ≡ status.WriteFault)

module _ {words : List (List ℕ)} {files : Files} (asks : Asks words files) (stamp : Stamp) where
  module _ (before : Option (List ℕ)) (s : Status) (after : Option (List ℕ)) where
    -- where it comes to its end the file holds what it would have left without a stop, its lock free, or the first database where nothing was called, and it ends as it would have
    abbrev pub UpdateResumes : Type 0
    UpdateResumes = OnFile asks.line.options.dialect before (λ database. (was : UpdateStopped asks stamp database) → is_over s ≡ true
        → HoldsAtRest was.part.options.dialect after was.start (without_stop was.part was.start).contents × EndsSo (status_by (without_stop was.part was.start).stop) s)

    -- and a rollback leaves the database of the point, in the same way
    abbrev pub RollbackResumes : Type 0
    RollbackResumes = OnFile asks.line.options.dialect before (λ database. (was : RollbackStopped asks stamp database) → is_over s ≡ true → HoldsAtRest asks.line.options.dialect after was.start was.before)

-- the turns of a rollback, where its target is found and each row behind it has what takes it back
abbrev pub turns_to : Given → Target → Database → Option (List Turn)
turns_to given target database = option_and_then (λ stay. undo_turns given.options.dialect any_meaning (sets_in given) (rows_undone stay database.rows)) (rows_kept target database.rows)

-- so an update stands in which no changeset is refused and skipped: at whole turns and, where the lock has a mark, at the first statements of the turn that it names, to which the one that it names belongs where the last deed is not its mark
abbrev pub UpdateHeld : Given → Database → Option Deed → Database → Type 0
UpdateHeld given database last now = none_gives_way given.options.dialect any_meaning given.stamp (sets_in given) (contents_of database) ≡ true
    → UpdateStands given.options.dialect any_meaning given.stamp (sets_in given) (contents_of database) last now

-- so a rollback stands, in the same way
abbrev pub BackHeld : Given → Target → Database → Option Deed → Database → Type 0
BackHeld given target database last now = (turns : List Turn) × (turns_to given target database ≡ Some turns) × RollbackStands given.options.dialect given.stamp turns (contents_of database) last now

-- so a rehearsal stands: as its update, as its rollback behind that, or as its second update behind both
abbrev pub RehearsalHeld : Given → Database → Option Deed → Database → Type 0
RehearsalHeld given database last now =
    let one = left_by given.options.dialect (update_script given database) database in
    let target = Count (came (length database.rows) one) in
    let two = left_by given.options.dialect (rollback_script given target one) one in
    UpdateHeld given database last now ⊎ (BackHeld given target one last now ⊎ UpdateHeld given two last now)

-- So a job stands that was stopped and holds the lock. An update, also by part, and a rollback in the same way, and a rehearsal as one of its runs. A changelog-sync: all its rows are there, or none. No other job holds the lock.
abbrev pub StandsHeld : Job → Given → Database → Option Deed → Database → Type 0
StandsHeld (Runs command.Update) given database last now = UpdateHeld given database last now
StandsHeld (UpdateCount count) given database last now = UpdateHeld (counted_in count given database.rows) database last now
StandsHeld (UpdateTo tag) given database last now = UpdateHeld given database last now
StandsHeld (Runs (command.Rollback target)) given database last now = BackHeld given target database last now
StandsHeld (Runs command.Sync) given database last now = IsBetween given.stamp (contents_of database) now ⊎ IsBetween given.stamp (synced given.stamp.reading (sets_in given) (contents_of database)).contents now
StandsHeld UpdateTestingRollback given database last now = RehearsalHeld given database last now
StandsHeld job given database last now = ⊥

-- where a stop of the job, which began with a lock that was not held, left it held
abbrev pub LeavesMarked : {words : List (List ℕ)} {files : Files} → Asks words files → Stamp → Option (List ℕ) → Option (List ℕ) → Type 0
LeavesMarked asks stamp before after = OnFile asks.line.options.dialect before (λ database. database.lock.locked ≡ false
    → (left : IsLeftOn asks.line.options.dialect (job_script asks.line.job (given_by asks stamp) database) database before after) → left.now.lock.locked ≡ true
    → StandsHeld asks.line.job (given_by asks stamp) database (last_or None (joined left.written)) left.now)

-- What undo-unrecorded takes back where an update was stopped, and an update that comes to its end between such stops.

-- The file's journal is the last of some with held locks. The first was left by an update that began where no lock was held and was stopped within the statements of a changeset which ran there for the first time; each other one by undo-unrecorded, with these files, on the one before.
pub record PartStopped {words : List (List ℕ)} {files : Files} (asks : Asks words files) (told : Option (List ℕ)) (database : Database) : Type 0 where
  pub is_undo : asks.line.job ≡ UndoUnrecorded
  pub stamp : Stamp
  pub log : Changelog AnyChange
  pub start : Database
  pub before : List Entry
  pub first : List Entry
  pub cut : UpdateCut asks.line.options.dialect stamp log start before first
  pub gives : Gives asks.line.options asks.changelog (turns_on asks.line.options.dialect stamp cut.turns start).contents.rows cut.set
  pub stops : List (List Entry)
  pub entries : List Entry
  pub told_are : entries_in asks.line.options.dialect most_bytes told ≡ Some entries
  pub since : AreUndone asks.line.options asks.changelog first cut.stop.now stops entries database

-- what the changesets before it left
abbrev pub point_of : {words : List (List ℕ)} {files : Files} {asks : Asks words files} {told : Option (List ℕ)} {database : Database} → PartStopped asks told database → Contents
point_of {asks = asks} was = (turns_on asks.line.options.dialect was.stamp was.cut.turns was.start).contents

module _ {words : List (List ℕ)} {files : Files} (asks : Asks words files) (told : Option (List ℕ)) (s : Status) (after : Option (List ℕ)) where
  -- Where it comes to its end the file holds that, with a free lock. So it ends, where the changelog goes with the rows and the changeset has no rollback block, unless a fault of the outside is met, or the journal is full.
  pub record HasTakenBack (database : Database) (was : PartStopped asks told database) : Type 0 where
    pub leaves : is_over s ≡ true → (now : Database) × Holds asks.line.options.dialect after now × IsWhole (point_of was) now
    pub ends : faults (log_of asks).sets database.rows ≡ [] → was.gives.set.rollback ≡ None → IsTaken s

  abbrev pub TakesPartBack : Type 0
  TakesPartBack = OnFile asks.line.options.dialect told (λ database. (was : PartStopped asks told database) → HasTakenBack database was)

-- A steady update in mysql, each of whose pending changesets undo-unrecorded may take back, that was stopped any number of times, under any names; behind each stop that left the lock held came undo-unrecorded, where it had a mark, or release-locks. The first began on this database, behind these entries, where no lock was held.
pub record UpdateMended {words : List (List ℕ)} {files : Files} (asks : Asks words files) (stamp : Stamp) (database : Database) : Type 0 where
  pub part : Given
  pub is_update : command_by asks.line.job (given_by asks stamp) database ≡ Some (command.Update, part)
  pub is_mysql : part.options.dialect ≡ Mysql
  pub time : IsTime part.stamp.reading
  pub begin : List Entry
  pub start : Database
  pub sound : IsSound Mysql start.users
  pub unlocked : start.lock.locked ≡ false
  pub steady : IsSteady Mysql any_meaning part.stamp (log_in part) (contents_of start)
  pub fits : all_fit any_meaning part.stamp (sets_in part) (sets_in part) (contents_of start) ≡ true
  pub stops : List Journal
  pub last : Journal
  pub stopped : AreStopped part.options part.changelog part.stamp begin start [] stops last
  pub led : all_done Mysql (joined last) start ≡ Ok database
  pub unheld : database.lock.locked ≡ false

-- where it comes to its end the file holds what it would have left without a stop, its lock free, or the first database where nothing was called, and it ends as it would have
abbrev pub UpdateMends : {words : List (List ℕ)} {files : Files} → Asks words files → Stamp → Option (List ℕ) → Status → Option (List ℕ) → Type 0
UpdateMends asks stamp before s after = OnFile asks.line.options.dialect before (λ database. (was : UpdateMended asks stamp database) → is_over s ≡ true
    → HoldsAtRest was.part.options.dialect after was.start (without_stop was.part was.start).contents × EndsSo (status_by (without_stop was.part was.start).stop) s)
