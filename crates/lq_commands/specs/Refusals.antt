-- What a command is refused for before it runs: its checks, in order.
use Rattle.std.specs.Option.{option_or}
use Rattle.std.specs.Prelude.{Bool, Err, List, None, Ok, Option, Result, Some, [], false, if◌then◌else◌, is_some, true, ℕ, ◌∷◌, ◌≡◌, ◌⊎◌}
use Rattle.lq_base.specs.declared.command.Command.{Command}
use Rattle.lq_base.specs.declared.command.Command.TheVariants as command
use Rattle.lq_base.specs.declared.command.Target.{Target}
use Rattle.lq_base.specs.declared.identity.Identity.{Identity}
use Rattle.lq_base.specs.declared.run.Why.{Why}
use Rattle.lq_base.specs.declared.tracking.Tracked.{Tracked}
use Rattle.lq_commands.specs.Scripts.{log_in, sets_in}
use Rattle.lq_commands.specs.declared.given.Given.{Given}
use Rattle.lq_model.specs.declared.fault.StoreFault.{StoreFault}
use Rattle.lq_model.specs.declared.fault.StoreFault.TheVariants as fault
use Rattle.lq_seen.specs.View.{any_meaning}
use Rattle.lq_tell.specs.declared.done.Done.{Done}
use Rattle.lq_tell.specs.declared.status.Status.{Status}
use Rattle.lq_tell.specs.declared.status.Status.TheVariants as status
use Rattle.lq_track.specs.Database.{Database}
use Rattle.lq_turns.specs.Deed.{contents_of}
use Rattle.lq_turns.specs.Faults.{faults}
use Rattle.lq_turns.specs.Script.{not_reversible, rows_kept, rows_undone}
use Rattle.lq_turns.specs.Settle.{own_choice}
use Rattle.lq_turns.specs.declared.choice.Choice.{Choice}
use Rattle.lq_turns.specs.declared.choice.Choice.TheVariants.{Halts, Runs}
use Rattle.lq_turns.specs.declared.fault.Fault.{Fault}

-- the lock is held
abbrev pub held : Database → Option Status
held database = if database.lock.locked then Some (status.Locked database.lock) else None

abbrev pub if_some : List Fault → Option Status
if_some [] = None
if_some (fault ∷ faults) = Some (status.Invalid (fault ∷ faults))

-- the changelog does not go with the rows
abbrev pub invalid : Given → List Tracked → Option Status
invalid given rows = if_some (faults (sets_in given) rows)

abbrev pub if_halts : Choice → Option Status
if_halts (Halts why) = Some (status.Halted None why)
if_halts _ = None

-- the changelog's own precondition halts
abbrev pub own_halt : Given → Database → Option Status
own_halt given database = if_halts (own_choice (log_in given) (contents_of database))

-- why it only warns

abbrev pub if_warns : Choice → Option Why
if_warns (Runs what why) = why
if_warns _ = None

abbrev pub own_warning : Given → Database → Option Why
own_warning given database = if_warns (own_choice (log_in given) (contents_of database))

abbrev pub if_not : Option Identity → Option Status
if_not (Some of) = Some (status.NotReversible of)
if_not None = None

-- nothing takes one of these rows back
abbrev pub irreversible : Given → List Tracked → Option Status
irreversible given undone = if_not (not_reversible given.options.dialect any_meaning (sets_in given) undone)

-- no row has the tag, or one of the rows after those that stay has nothing that takes it back
abbrev pub unreachable_by : Given → Option ℕ → List Tracked → Option Status
unreachable_by given None rows = Some status.NoTarget
unreachable_by given (Some stay) rows = irreversible given (rows_undone stay rows)

abbrev pub no_way_back : Given → Target → List Tracked → Option Status
no_way_back given target rows = unreachable_by given (rows_kept target rows) rows

-- there is no row to tag
abbrev pub untagged : List Tracked → Option Status
untagged [] = Some status.NoTarget
untagged (row ∷ rows) = None

-- the lock is held, or else the changelog does not go with the rows
abbrev pub unready : Given → Database → Option Status
unready given database = option_or (held database) (invalid given database.rows)

-- the first check of a command that fails
abbrev pub refusal : Command → Given → Database → Option Status
refusal command.Validate given database = invalid given database.rows
refusal command.Status given database = invalid given database.rows
refusal command.Update given database = option_or (unready given database) (own_halt given database)
refusal (command.Tag name) given database = option_or (held database) (untagged database.rows)
refusal (command.Rollback target) given database = option_or (unready given database) (no_way_back given target database.rows)
refusal command.Sync given database = unready given database
refusal command.Release given database = None

-- What is printed may be refused too, but never for the lock: that is freed on the copy.

abbrev pub print_update : Given → Database → Option Status
print_update given database = option_or (invalid given database.rows) (own_halt given database)

abbrev pub print_rollback : Given → Target → Database → Option Status
print_rollback given target database = option_or (invalid given database.rows) (no_way_back given target database.rows)

-- so a check answers: it passes, or it is the refusal; or there was no memory
abbrev pub Passes : {A : Type 0} → Option Status → Result A Status → Type 0
Passes None (Ok a) = Unit {0}
Passes None (Err s) = s ≡ status.OutOfMemory
Passes (Some refused) (Ok a) = ⊥
Passes (Some refused) (Err s) = (s ≡ refused) ⊎ (s ≡ status.OutOfMemory)

-- the status of a fault of the store
abbrev pub fault_status : StoreFault → Status
fault_status fault.Disk = status.DiskFault
fault_status (fault.Full used next) = status.Full used next
fault_status (fault.Refused reason) = status.OutOfMemory
fault_status fault.NotSql = status.OutOfMemory
fault_status (fault.Busy session) = status.OutOfMemory
fault_status fault.OutOfMemory = status.OutOfMemory

-- a fault that a run may meet
abbrev pub IsFault : Status → Type 0
IsFault s = (s ≡ status.DiskFault) ⊎ (s ≡ status.OutOfMemory)

-- a run that came to an end, or to the end of the journal; what the changelog's own precondition halts has no run
abbrev pub ends : Status → Bool
ends status.Done = true
ends (status.Halted of why) = is_some of
ends (status.Refused identity statement kept reason) = true
ends (status.Full used next) = true
ends s = false

-- so a command answers: it ends in its run; or it is refused; or it meets a fault
abbrev pub Answers : Option Status → Result Done Status → Type 0
Answers None (Ok done) = ends done.status ≡ true
Answers None (Err s) = IsFault s
Answers (Some refused) (Ok done) = ⊥
Answers (Some refused) (Err s) = (s ≡ refused) ⊎ IsFault s
