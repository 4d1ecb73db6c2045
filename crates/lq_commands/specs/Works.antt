-- What a command leaves of a database, and what it tells at its end.
use Rattle.std.specs.List.{flat_map}
use Rattle.std.specs.Prelude.{Bool, Err, List, None, Ok, Option, Result, Some, [], false, if◌then◌else◌, is_some, nat_lt, option_map, true, ℕ, ◌&&◌, ◌++◌, ◌≡◌, ◌≤◌}
use Rattle.lq_base.specs.declared.command.Command.{Command}
use Rattle.lq_base.specs.declared.command.Command.TheVariants as command
use Rattle.lq_base.specs.declared.dialect.Dialect.{Dialect}
use Rattle.lq_base.specs.declared.identity.Identity.{Identity}
use Rattle.lq_base.specs.declared.run.Happened.{Happened}
use Rattle.lq_base.specs.declared.run.Printed.{Printed}
use Rattle.lq_base.specs.declared.run.Why.{Why}
use Rattle.lq_base.specs.declared.tracking.Tracked.{Tracked}
use Rattle.lq_commands.specs.Scripts.{one_way, sets_in}
use Rattle.lq_commands.specs.declared.given.Given.{Given}
use Rattle.lq_report.specs.Output.{rollback_text, sql_text, sync_text, update_text}
use Rattle.lq_run.specs.Commands.{HasDatabase, Leaves}
use Rattle.lq_run.specs.Crashes.{CrashesLeave, LeftBehind, LeftInCommand}
use Rattle.lq_run.specs.Left.{IsFullIn, RestsIn, RestsShortIn}
use Rattle.lq_run.specs.Stands.{HadRoom}
use Rattle.lq_run.specs.Steps.{TellsAs}
use Rattle.lq_run.specs.declared.runner.End.{End}
use Rattle.lq_run.specs.declared.runner.End.TheVariants as end
use Rattle.lq_seen.specs.Telling.{Account, Reports, WarnsFirst, bounded}
use Rattle.lq_seen.specs.declared.outcome.Halt.{Halt}
use Rattle.lq_seen.specs.declared.outcome.Outcome.{Outcome}
use Rattle.lq_stand.specs.Stays.{IsClean}
use Rattle.lq_store.specs.Journal.{Crashes, State}
use Rattle.lq_tell.specs.Lines.{warning_line, warning_lines}
use Rattle.lq_tell.specs.declared.done.Done.{Done}
use Rattle.lq_tell.specs.declared.status.Status.{Status}
use Rattle.lq_tell.specs.declared.status.Status.TheVariants as status
use Rattle.lq_track.specs.Database.{Database}
use Rattle.lq_turns.specs.Deed.{contents_of, has_place}
use Rattle.lq_turns.specs.Laws.{insert_stop, synced}
use Rattle.lq_turns.specs.Session.{all_called, session_on}
use Rattle.lq_turns.specs.Settle.{Settled, greatest}
use Rattle.lq_turns.specs.declared.call.Call.{Call}
use Rattle.lq_turns.specs.declared.stop.Refusal.{Refusal}
use Rattle.lq_turns.specs.declared.stop.Stop.{Stop}
use Rattle.lq_turns.specs.declared.stop.Stop.TheVariants.{Halted, Refused}

-- What a command leaves of a database.

-- the database of a store on which commands run: its rows differ, the users' objects stand apart from the tracking tables, and the last row has a place of 31 bits
pub record IsReady (d : Dialect) (x : State) : Type 0 where
  pub database : Database
  pub has : HasDatabase d x database
  pub clean : IsClean d database
  pub small : greatest database.rows ≤ 2147483647

-- for the database of a store
abbrev pub OnIts : Dialect → State → (Database → Type 0) → Type 0
OnIts d x holds = (database : Database) → HasDatabase d x database → holds database

-- it came to its end: it did its work, or it halted, or a statement was refused
abbrev pub is_finished : Status → Bool
is_finished status.Done = true
is_finished (status.Halted place why) = true
is_finished (status.Refused identity statement kept reason) = true
is_finished s = false

-- a run made all its calls
abbrev pub is_whole : End → Bool
is_whole end.Done = true
is_whole (end.Refused refusal) = true
is_whole (end.Locked lock) = false
is_whole end.Disk = false
is_whole (end.Full used next) = false
is_whole end.OutOfMemory = false

-- a run that did not make all its calls fails with its own fault, and with no other
abbrev pub FailsWith : End → Status → Type 0
FailsWith end.Done s = ⊥
FailsWith (end.Refused refusal) s = ⊥
FailsWith (end.Locked lock) s = s ≡ status.Locked lock
FailsWith end.Disk s = s ≡ status.DiskFault
FailsWith (end.Full used next) s = ⊥
FailsWith end.OutOfMemory s = s ≡ status.OutOfMemory

-- it had the lock until its end
abbrev pub KeptLock : End → Type 0
KeptLock (end.Locked lock) = ⊥
KeptLock e = Unit {0}

-- a run that met a full journal tells how full it was, and leaves it and the lock so; want of memory leaves them so as well
abbrev pub FullAs : Dialect → List Call → Database → State → End → State → Type 0
FullAs d calls database x end.Done y = Unit {0}
FullAs d calls database x (end.Refused refusal) y = Unit {0}
FullAs d calls database x (end.Locked lock) y = Unit {0}
FullAs d calls database x end.Disk y = Unit {0}
FullAs d calls database x (end.Full used next) y = RestsIn d calls database x y used next
FullAs d calls database x end.OutOfMemory y = RestsShortIn d calls database x y

-- and its status has the same numbers
abbrev pub TellsFull : End → Status → Type 0
TellsFull end.Done s = is_finished s ≡ true
TellsFull (end.Refused refusal) s = is_finished s ≡ true
TellsFull (end.Locked lock) s = ⊥
TellsFull end.Disk s = ⊥
TellsFull (end.Full used next) s = s ≡ status.Full used next
TellsFull end.OutOfMemory s = ⊥

-- a status that says that the journal is full says how full it was
abbrev pub SaysFull : Dialect → List Call → Database → State → Status → Type 0
SaysFull d calls database x s = (used next : ℕ) → s ≡ status.Full used next → IsFullIn d calls database x used next

-- and leaves the journal and the lock so
abbrev pub RestsFull : Dialect → List Call → Database → State → Status → State → Type 0
RestsFull d calls database x s y = (used next : ℕ) → s ≡ status.Full used next → RestsIn d calls database x y used next

-- there was room for each entry of calls that came to their end, and a full journal is told as full as it was
abbrev pub TellsRoom : Dialect → List Call → Database → State → Status → Type 0
TellsRoom d calls database x s = (is_finished s ≡ true → HadRoom d x.limit x.used (all_called d calls (session_on database)).entries) × SaysFull d calls database x s

-- where a command came to its end its calls' database is there, and their entries are in the journal; however else it ended, what a stop of them may leave; and how full a full journal was, and how the lock rests then
abbrev pub Works : Dialect → List Call → Database → State → Result Done Status → State → Type 0
Works d calls database x (Ok done) y = (is_finished done.status ≡ true → Leaves d calls database x y) × (is_finished done.status ≡ false → LeftBehind d calls database x y) × RestsFull d calls database x done.status y
Works d calls database x (Err s) y = LeftBehind d calls database x y

-- at each moment of it a crash of the machine leaves what a stop of these calls may leave
abbrev pub CrashesIn : Dialect → List Call → Database → State → Crashes → Crashes → Type 0
CrashesIn d calls database x before now = CrashesLeave x.entries (LeftInCommand d calls database) before now

-- it appends nothing, however it ends
abbrev pub only_reads : Command → Bool
only_reads command.Validate = true
only_reads command.Status = true
only_reads c = false

-- one that is refused changes nothing
abbrev pub IsKept : {S : Type 0} → Option Status → S → S → Type 0
IsKept refused before after = is_some refused ≡ true → after ≡ before

-- What a command that came to its end tells of its run.

-- the status of a run by what stopped it
abbrev pub status_by : Option Stop → Status
status_by None = status.Done
status_by (Some (Halted place why)) = status.Halted place why
status_by (Some (Refused of refusal)) = status.Refused of refusal.statement refusal.kept refusal.reason

-- what stopped a run, by how it ended and by what its source has noted
abbrev pub stop_by : Option Halt → Option Identity → End → Option Stop
stop_by halted at end.Done = option_map (λ (h : Halt). Halted h.identity h.why) halted
stop_by halted at (end.Refused refusal) = option_map (λ of. Refused of refusal) at
stop_by halted at e = None

-- the source has told and printed so much, by how the run ended; at a full journal it has warned of a front
abbrev pub HasTold : Outcome → Account → End → Type 0
HasTold o account end.Done = Reports o account None
HasTold o account (end.Refused refusal) = Reports o account (Some refusal)
HasTold o account (end.Full used next) = WarnsFirst o account.settled
HasTold o account (end.Locked lock) = Unit {0}
HasTold o account end.Disk = Unit {0}
HasTold o account end.OutOfMemory = Unit {0}

-- its output: the statements that ran, where they are to be printed, or else what was done with each changeset
abbrev pub update_output : Bool → List Happened → ℕ → List Printed → List ℕ
update_output prints happened not_fresh printed = if prints then sql_text false printed else update_text happened not_fresh

abbrev pub rollback_output : Bool → List Happened → List Printed → List ℕ
rollback_output prints happened printed = if prints then sql_text true printed else rollback_text happened

abbrev pub update_told : Bool → Account → List ℕ
update_told prints account = update_output prints account.settled.happened (bounded account.settled.not_fresh) account.printed

abbrev pub rollback_told : Bool → Account → List ℕ
rollback_told prints account = rollback_output prints account.settled.happened account.printed

-- it has no warnings
abbrev pub IsQuiet : Done → Type 0
IsQuiet done = (done.own ≡ None) × (done.warned ≡ [])

-- its status, its output and the lines of its warnings are those of its account

pub record TellsUpdate (prints : Bool) (account : Account) (done : Done) : Type 0 where
  pub status : done.status ≡ status_by account.settled.stop
  pub out : done.out ≡ Some (update_told prints account)
  pub warned : warning_lines done.own done.warned ≡ flat_map warning_line account.settled.warned

pub record TellsRollback (prints : Bool) (account : Account) (done : Done) : Type 0 where
  pub status : done.status ≡ status_by account.settled.stop
  pub out : done.out ≡ Some (rollback_told prints account)
  pub warned : warning_lines done.own done.warned ≡ flat_map warning_line account.settled.warned

-- so does one that came to its end
abbrev pub IfFinished : Done → Type 0 → Type 0
IfFinished done tells = is_finished done.status ≡ true → tells

-- however it ended, the lines of its warnings are those of a front of these
pub record WarnsUpTo (warned : List (Option Identity × Why)) (done : Done) : Type 0 where
  pub front : List (Option Identity × Why)
  pub rest : List (Option Identity × Why)
  pub is : front ++ rest ≡ warned
  pub lines : warning_lines done.own done.warned ≡ flat_map warning_line front

abbrev pub EndsUpdate : Bool → Account → Done → Type 0
EndsUpdate prints account done = IfFinished done (TellsUpdate prints account done) × WarnsUpTo account.settled.warned done

abbrev pub EndsRollback : Bool → Account → Done → Type 0
EndsRollback prints account done = IfFinished done (TellsRollback prints account done) × WarnsUpTo account.settled.warned done

-- A changelog-sync: which of its rows do not go in, how it ends, and what it tells.

-- the row has a place in run order, and there is room for it behind so many
abbrev pub goes_in : ℕ → Tracked → Bool
goes_in count row = has_place row && nat_lt count 100000

abbrev pub refusal_in : Option Stop → Option Refusal
refusal_in None = None
refusal_in (Some (Halted place why)) = None
refusal_in (Some (Refused of refusal)) = Some refusal

-- it ends as these rows, behind those before, go in or do not
abbrev pub EndsWithRows : List Tracked → List Tracked → End → Type 0
EndsWithRows rows before e = TellsAs (one_way (refusal_in (insert_stop rows before))) e

-- the output by the status: what was marked, or nothing where a row was refused
abbrev pub sync_out : Status → List Happened → Option (List ℕ)
sync_out status.Done happened = Some (sync_text happened)
sync_out (status.Refused identity statement kept reason) happened = Some (sync_text [])
sync_out s happened = None

-- what it does
abbrev pub synced_in : Given → Database → Settled
synced_in given database = synced given.stamp.reading (sets_in given) (contents_of database)

-- its status is that of what it did, its output tells of each changeset that was marked, and it warns of nothing
pub record TellsSync (settled : Settled) (done : Done) : Type 0 where
  pub status : done.status ≡ status_by settled.stop
  pub out : done.out ≡ Some (sync_text settled.happened)
  pub warned : warning_lines done.own done.warned ≡ []

abbrev pub EndsSync : Settled → Done → Type 0
EndsSync settled done = IfFinished done (TellsSync settled done) × WarnsUpTo [] done
