-- What a player answers, and what its faults of the store come to.
use Rattle.std.specs.Prelude.{Bool, Err, None, Ok, Option, Result, Some, [], false, if◌then◌else◌, true, ℕ, ◌≡◌}
use Rattle.lq_base.specs.declared.tracking.Lock.{Lock}
use Rattle.lq_drill.specs.declared.fault.DrillFault.{DrillFault}
use Rattle.lq_drill.specs.declared.fault.DrillFault.TheVariants as drill
use Rattle.lq_model.specs.declared.fault.StoreFault.{StoreFault}
use Rattle.lq_model.specs.declared.fault.StoreFault.TheVariants as fault
use Rattle.lq_playing.specs.declared.came.Came.{Came}
use Rattle.lq_playing.specs.declared.came.Report.{Report}
use Rattle.lq_run.specs.declared.runner.End.{End}
use Rattle.lq_run.specs.declared.runner.End.TheVariants as end
use Rattle.lq_turns.specs.declared.answer.Answer.{Answer}
use Rattle.lq_turns.specs.declared.answer.Answer.TheVariants as answer
use Rattle.lq_turns.specs.declared.stop.Refusal.{Refusal}

abbrev pub failure_of : DrillFault → Answer
failure_of drill.Disk = answer.Disk
failure_of (drill.Full used next) = answer.Full used next
failure_of drill.OutOfMemory = answer.OutOfMemory

-- an answer to a fault of the store
abbrev pub is_failure : Answer → Bool
is_failure answer.Done = false
is_failure (answer.Locked lock) = false
is_failure (answer.Invalid faults) = false
is_failure (answer.Halted identity why) = false
is_failure (answer.Refused identity statement kept reason) = false
is_failure answer.NoTarget = false
is_failure (answer.NotReversible of) = false
is_failure answer.Disk = true
is_failure (answer.Full used next) = true
is_failure (answer.Busy session) = false
is_failure answer.OutOfMemory = true

-- that the lock is held, or no longer its own
abbrev pub tells_locked : Answer → Bool
tells_locked answer.Done = false
tells_locked (answer.Locked lock) = true
tells_locked (answer.Invalid faults) = false
tells_locked (answer.Halted identity why) = false
tells_locked (answer.Refused identity statement kept reason) = false
tells_locked answer.NoTarget = false
tells_locked (answer.NotReversible of) = false
tells_locked answer.Disk = false
tells_locked (answer.Full used next) = false
tells_locked (answer.Busy session) = false
tells_locked answer.OutOfMemory = false

abbrev pub fault_of : StoreFault → DrillFault
fault_of fault.Disk = drill.Disk
fault_of (fault.Full used next) = drill.Full used next
fault_of fault.OutOfMemory = drill.OutOfMemory
fault_of (fault.Busy n) = drill.OutOfMemory
fault_of fault.NotSql = drill.OutOfMemory
fault_of (fault.Refused reason) = drill.OutOfMemory

-- a command ended by a fault of the store
abbrev pub is_failed_end : End → Bool
is_failed_end end.Done = false
is_failed_end (end.Refused refusal) = false
is_failed_end (end.Locked lock) = false
is_failed_end end.Disk = true
is_failed_end (end.Full used next) = true
is_failed_end end.OutOfMemory = true

-- or it had the lock to its end
abbrev pub is_told_end : End → Bool
is_told_end end.Done = true
is_told_end (end.Refused refusal) = true
is_told_end (end.Locked lock) = false
is_told_end end.Disk = false
is_told_end (end.Full used next) = false
is_told_end end.OutOfMemory = false

-- what fault it answers at its end: the one that ended it, or that there was no memory for its answer
abbrev pub FailsAs : End → DrillFault → Type 0
FailsAs end.Done why = why ≡ drill.OutOfMemory
FailsAs (end.Refused refusal) why = why ≡ drill.OutOfMemory
FailsAs (end.Locked lock) why = ⊥
FailsAs end.Disk why = why ≡ drill.Disk
FailsAs (end.Full used next) why = why ≡ drill.Full used next
FailsAs end.OutOfMemory why = why ≡ drill.OutOfMemory

-- the refusal that stopped it, if one did
abbrev pub refusal_in : End → Option Refusal
refusal_in end.Done = None
refusal_in (end.Refused refusal) = Some refusal
refusal_in (end.Locked lock) = None
refusal_in end.Disk = None
refusal_in (end.Full used next) = None
refusal_in end.OutOfMemory = None

-- it answers, and a fault of the store is kept in mind
abbrev pub AnswersAs : {A : Type 0} → (DrillFault → A) → Result A DrillFault → Bool → Option A → Bool → Result (Unit {0}) DrillFault → Type 0
AnswersAs failed (Ok a) was answers now result = (answers ≡ Some a) × (now ≡ was) × (result ≡ Ok tt)
AnswersAs failed (Err why) was answers now result = (answers ≡ Some (failed why)) × (now ≡ true) × (result ≡ Err why)

abbrev pub Answers : Result Answer DrillFault → Bool → Option Answer → Bool → Result (Unit {0}) DrillFault → Type 0
Answers found was answers now result = AnswersAs failure_of found was answers now result

-- the disk failed
abbrev pub is_disk_fault : DrillFault → Bool
is_disk_fault drill.Disk = true
is_disk_fault (drill.Full used next) = false
is_disk_fault drill.OutOfMemory = false

abbrev pub is_disk_answer : {A : Type 0} → Result A DrillFault → Bool
is_disk_answer (Ok a) = false
is_disk_answer (Err why) = is_disk_fault why

-- What a command came to.

-- what a command did that has done nothing
abbrev pub nothing : Report
nothing = record { happened = []; not_fresh = 0; warned = []; printed = []; pending = []; freed = None }

-- It passed its checks, and came to its end. A changelog whose own precondition halts does not pass them.
abbrev pub has_ended : Answer → Bool
has_ended answer.Done = true
has_ended (answer.Locked lock) = false
has_ended (answer.Invalid faults) = false
has_ended (answer.Halted None why) = false
has_ended (answer.Halted (Some of) why) = true
has_ended (answer.Refused identity statement kept reason) = true
has_ended answer.NoTarget = false
has_ended (answer.NotReversible of) = false
has_ended answer.Disk = false
has_ended (answer.Full used next) = false
has_ended (answer.Busy session) = false
has_ended answer.OutOfMemory = false

-- with its answer it tells what it did, where it came to its end
abbrev pub came : Report → Answer → Came
came report a = record { answer = a; report = if has_ended a then Some report else None }

abbrev pub answer_of : Came → Answer
answer_of it = it.answer

-- or it came to an answer alone
abbrev pub only : Answer → Came
only a = record { answer = a; report = None }

-- the lock is held, or another session has a transaction open

abbrev pub as_locked : Lock → Came
as_locked lock = only (answer.Locked lock)

abbrev pub as_busy : ℕ → Came
as_busy n = only (answer.Busy n)

-- or the store has a fault
abbrev pub as_failed : DrillFault → Came
as_failed why = only (failure_of why)
