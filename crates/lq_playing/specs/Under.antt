-- What keeps a command that has begun from its next call.
use Rattle.std.specs.Prelude.{Bool, Err, List, None, Ok, Option, Result, Some, [], false, true, ℕ, ◌∷◌, ◌≡◌, ◌⊎◌}
use Rattle.lq_base.specs.declared.dialect.Dialect.{Dialect}
use Rattle.lq_base.specs.declared.tracking.Lock.{Lock}
use Rattle.lq_beside.specs.Replays.{calls_fit}
use Rattle.lq_drill.specs.Faults.{is_barred, last_calls}
use Rattle.lq_drill.specs.declared.fault.DrillFault.{DrillFault}
use Rattle.lq_drill.specs.declared.fault.DrillFault.TheVariants as drill
use Rattle.lq_hand.specs.Hand.{IsReady}
use Rattle.lq_hand.specs.Way.{Way}
use Rattle.lq_model.specs.declared.fault.StoreFault.{StoreFault}
use Rattle.lq_model.specs.declared.fault.StoreFault.TheVariants as fault
use Rattle.lq_playing.specs.Answers.{as_busy, as_failed, as_locked, fault_of, is_failure}
use Rattle.lq_playing.specs.declared.came.Came.{Came}
use Rattle.lq_run.specs.Ends.{KeepsLock}
use Rattle.lq_run.specs.Stands.{IsBare, IsHeld}
use Rattle.lq_run.specs.Steps.{Known, Standing, place}
use Rattle.lq_store.specs.Journal.{State, other}
use Rattle.lq_track.specs.Database.{Database}
use Rattle.lq_turns.specs.Rest.{both_of, rest}
use Rattle.lq_turns.specs.Schedule.{Holder, StandsFor}
use Rattle.lq_turns.specs.Script.{closing}
use Rattle.lq_turns.specs.Session.{Session}
use Rattle.lq_turns.specs.Set.{Meaning}
use Rattle.lq_turns.specs.declared.answer.Answer.{Answer}
use Rattle.lq_turns.specs.declared.answer.Answer.TheVariants.{Busy, Locked}
use Rattle.lq_turns.specs.declared.call.Call.{Call}
use Rattle.lq_turns.specs.declared.call.Call.TheVariants.{Abort}
use Rattle.lq_turns.specs.declared.stamp.Stamp.{Stamp}
use Rattle.lq_turns.specs.declared.stop.Refusal.{Refusal}

-- the lock was lost, and is this; or it is held, and another session has a transaction open
abbrev pub IsHindered : Dialect → Stamp → ℕ → State → Answer → Type 0
IsHindered d stamp session x a = x.dialect ≡ d → (database : Database) → StandsFor d x.committed database → ((IsHeld stamp database.lock → ⊥) × (a ≡ Locked database.lock)) ⊎ (IsHeld stamp database.lock × ((n : ℕ) × (other session x ≡ Some n)))

-- no other session has a transaction open, and the lock is held, where no transaction is open
pub record IsFree (d : Dialect) (stamp : Stamp) (session : ℕ) (within : Bool) (x : State) : Type 0 where
  pub alone : other session x ≡ None
  pub held : within ≡ false → x.dialect ≡ d → (database : Database) → StandsFor d x.committed database → IsHeld stamp database.lock

-- the lock, where there is memory for it
abbrev pub TellsLost : Lock → Result Answer DrillFault → Type 0
TellsLost lock (Ok a) = a ≡ Locked lock
TellsLost lock (Err why) = why ≡ drill.OutOfMemory

-- the session that has a transaction open
abbrev pub TellsBusy : ℕ → State → Option (Result Answer DrillFault) → Type 0
TellsBusy session x None = other session x ≡ None
TellsBusy session x (Some (Ok a)) = (n : ℕ) × (other session x ≡ Some n) × (a ≡ Busy n)
TellsBusy session x (Some (Err why)) = ⊥

abbrev pub TellsOpen : StoreFault → Result Answer DrillFault → Type 0
TellsOpen (fault.Busy n) r = r ≡ Ok (Busy n)
TellsOpen fault.Disk r = r ≡ Err drill.OutOfMemory
TellsOpen (fault.Full used next) r = r ≡ Err drill.OutOfMemory
TellsOpen (fault.Refused reason) r = r ≡ Err drill.OutOfMemory
TellsOpen fault.NotSql r = r ≡ Err drill.OutOfMemory
TellsOpen fault.OutOfMemory r = r ≡ Err drill.OutOfMemory

abbrev pub Hinders : Dialect → Stamp → ℕ → Bool → State → Option (Result Answer DrillFault) → Type 0
Hinders d stamp session within x None = IsFree d stamp session within x
Hinders d stamp session within x (Some (Ok a)) = (within ≡ false) × (is_failure a ≡ false) × IsHindered d stamp session x a
Hinders d stamp session within x (Some (Err why)) = (within ≡ false) × (why ≡ drill.OutOfMemory)

-- A command that has begun, as the lock's holder in the machine.

-- no bar is in the name, behind which a mark would stand
abbrev pub IsPlain : Stamp → Type 0
IsPlain stamp = is_barred stamp.who ≡ false

-- the calls left to the holder are the command's; after a fault it takes its transaction back, and then frees a lock without a mark
abbrev pub ToCome : Stamp → Option StoreFault → Session → List Call → List Call → Type 0
ToCome stamp None s calls left = left ≡ calls
ToCome stamp (Some why) s calls left = (left ≡ last_calls s) × (((s.is_open ≡ true) × (calls ≡ Abort ∷ closing ∷ [])) ⊎ ((s.is_open ≡ false) × (calls ≡ closing ∷ []) × IsBare stamp s.committed.lock))

-- as if its calls had written nothing by now
abbrev pub bare : Session → Session
bare s = record s { entries = [] }

module _ {Key Told : Type 0} (d : Dialect) (m : Meaning Key) (stamp : Stamp) (r : Standing Key Told) where
  -- the session is at the command's place, and holds the lock until the last call; unless it met a fault its source knows the contents, on its way to having told so much
  pub record IsOn (told : Told) (s : Session) : Type 0 where
    pub ready : IsReady d s.is_open (place r)
    pub fits : calls_fit d (rest d m stamp (place r) (both_of s)) (bare s) ≡ true
    pub row : (s.committed.has_lock_row ≡ true) × (s.seen.has_lock_row ≡ true)
    pub known : r.fault ≡ None → Known d (r.way d stamp told) r.refused (place r) r.progress (both_of s)
    pub committed : IsHeld stamp s.committed.lock
    pub seen : IsHeld stamp s.seen.lock
    pub keeps : KeepsLock stamp.who (rest d m stamp (place r) (both_of s))

  -- what it will come to: what its source has told by then, or the fault that it met
  abbrev pub WillAnswer : {T : Type 0} → (T → Dialect → Stamp → Told → Way) → (T → Option Refusal → Came) → Told → Option StoreFault → Came → Type 0
  WillAnswer {T} way ends told None a = (last : T) (refused : Option Refusal) → (way last d stamp told).tells refused → ends last refused ≡ a
  WillAnswer way ends told (Some why) a = a ≡ as_failed (fault_of why)

  -- The holder's calls to come are the command's; so is its answer.
  pub record IsUnder {T : Type 0} (way : T → Dialect → Stamp → Told → Way) (ends : T → Option Refusal → Came) (h : Holder Came as_locked as_busy) : Type 0 where
    pub told : Told
    pub on : IsOn told h.session
    pub to_come : ToCome stamp r.fault h.session (rest d m stamp (place r) (both_of h.session)) h.rest
    pub answers : WillAnswer way ends told r.fault h.answer
