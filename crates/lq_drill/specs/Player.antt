-- One of several runners, and what a step of it does to the machine.
use Rattle.std.specs.Option.{option_map}
use Rattle.std.specs.Prelude.{Bool, Err, List, None, Ok, Option, Result, Some, [], false, if◌then◌else◌, is_some, true, ℕ, ◌&&◌, ◌++◌, ◌≡◌, ◌⊎◌}
use Rattle.lq_base.specs.declared.dialect.Dialect.{Dialect}
use Rattle.lq_base.specs.declared.tracking.Lock.{Lock}
use Rattle.lq_drill.specs.Faults.{IsLetGo, LeftBetween, Meets, Shows, Steps, entries_of}
use Rattle.lq_drill.specs.declared.fault.DrillFault.{DrillFault}
use Rattle.lq_drill.specs.declared.fault.DrillFault.TheVariants as fault
use Rattle.lq_store.specs.Journal.{Crashes, CrashesLeave, Entry, State}
use Rattle.lq_track.specs.Database.{Database}
use Rattle.lq_turns.specs.Schedule.{Holder, Job, Machine, StandsFor, has_begun}
use Rattle.lq_turns.specs.Script.{closing}
use Rattle.lq_turns.specs.declared.deed.Deed.{Deed}
pub use Rattle.lq_drill.specs.Faults.{answer_of, held_by}

-- what one answers that met a fault of the store: that fault, or that its lock is gone; or it has not yet answered
abbrev pub MayAnswer : {Answer : Type 0} → (Lock → Answer) → (DrillFault → Answer) → Option Answer → Type 0
MayAnswer locked failed answer = (answer ≡ None) ⊎ (((why : DrillFault) × (answer ≡ Some (failed why))) ⊎ ((lock : Lock) × (answer ≡ Some (locked lock))))

-- a runner between two of its steps
pub record Standing (Answer : Type 0) (locked : Lock → Answer) (busy : ℕ → Answer) : Type 1 where
  -- it is as its steps leave it, for statements of this dialect
  pub ready : Type 0
  pub dialect : Dialect
  -- it has a transaction open
  pub opens : Bool
  -- it met a fault of the store
  pub faulted : Bool
  -- and is to answer this one
  pub owes : DrillFault → Type 0
  -- what it does at its first step
  pub job : Job Answer locked busy
  -- it has made a call
  pub begun : Bool
  -- and is where this holder is
  pub is_at : Holder Answer locked busy → Type 0
  -- a lock that it took
  pub owns : Lock → Type 0
  pub answer : Option Answer

module _ {Answer : Type 0} {locked : Lock → Answer} {busy : ℕ → Answer} where
  -- one that has begun is the holder, or its lock is gone
  abbrev pub GoesOn : Standing Answer locked busy → Option (Holder Answer locked busy) → Lock → Type 0
  GoesOn r None lock = r.owns lock → ⊥
  GoesOn r (Some h) lock = r.is_at h

  -- the runner stands as the machine's of this number
  pub record Plays (jobs : ℕ → Job Answer locked busy) (n : ℕ) (r : Standing Answer locked busy) (x : Machine Answer locked busy) : Type 0 where
    pub answer : answer_of n x.answers ≡ r.answer
    -- until it has answered
    pub begun : r.answer ≡ None → has_begun Answer locked busy n x ≡ r.begun
    pub waits : r.answer ≡ None → r.begun ≡ false → jobs n ≡ r.job
    pub goes_on : r.answer ≡ None → r.begun ≡ true → GoesOn r (held_by n x.holder) x.committed.lock

  -- the holder and the lock are the same, or the lock is free or the runner's own
  abbrev pub LeavesLock : Standing Answer locked busy → Machine Answer locked busy → Machine Answer locked busy → Type 0
  LeavesLock r x y = ((y.holder ≡ x.holder) × (y.committed.lock ≡ x.committed.lock)) ⊎ ((y.committed.lock.locked ≡ false) ⊎ r.owns y.committed.lock)

  -- the store and the runner came from one machine to the other
  pub record Arrives (jobs : ℕ → Job Answer locked busy) (n : ℕ) (r : Standing Answer locked busy) (origin z : State) (x y : Machine Answer locked busy) : Type 0 where
    pub shows : Shows origin z y
    pub plays : Plays jobs n r y
    pub lock : LeavesLock r x y

  -- the fault was met before, or in the step from this machine
  abbrev pub IsDue : (DrillFault → Answer) → (ℕ → Job Answer locked busy) → ℕ → Standing Answer locked busy → State → Machine Answer locked busy → DrillFault → Type 0
  IsDue failed jobs n before origin x why = before.owes why ⊎ Meets failed origin.dialect jobs origin.used origin.limit n x why

  -- the entries of the store before the step, and a front of those that the machine's brings
  pub record Brings (d : Dialect) (x y : Machine Answer locked busy) (w z : State) : Type 0 where
    pub front : List (List Deed)
    pub more : List (List Deed)
    pub came : y.entries ≡ x.entries ++ (front ++ more)
    pub entries : z.entries ≡ option_map (λ entries. entries ++ entries_of d front) w.entries

  -- what a command is refused for: the lock keeps it out, or else the first of its checks that fails
  abbrev pub refusal : Job Answer locked busy → Database → Option Answer
  refusal job database = if job.needs_lock && database.lock.locked then Some (locked database.lock) else job.refuses database

  -- a command that makes no call on this database: it is refused, or has nothing to do
  abbrev pub MakesNone : Job Answer locked busy → Database → Type 0
  MakesNone job database = ((a : Answer) × (refusal job database ≡ Some a)) ⊎ (job.script database ≡ [])

  -- a runner's first step on a database on which it makes no call leaves the store as it was
  abbrev pub LeavesAll : {S : Type 0} → Standing Answer locked busy → State → S → S → Type 0
  LeavesAll before x old new = before.begun ≡ false → x.dialect ≡ before.dialect → (database : Database) → StandsFor x.dialect x.committed database → MakesNone before.job database → new ≡ old

  -- all calls that are left to it are made, and the store shows that; the lock is freed, or has a mark
  abbrev pub MakesLast : (DrillFault → Answer) → (ℕ → Job Answer locked busy) → ℕ → Type 0 → State → State → Machine Answer locked busy → DrillFault → Type 0
  MakesLast failed jobs n met origin z x why = (y : Machine Answer locked busy) × Steps failed origin.dialect jobs met n x y × Shows origin z y × (answer_of n y.answers ≡ Some (failed why)) × IsLetGo y.committed.lock

  -- so they are where there is no memory for its answer
  abbrev pub HasMadeAll : (DrillFault → Answer) → (ℕ → Job Answer locked busy) → ℕ → Type 0 → State → State → Machine Answer locked busy → Type 0
  HasMadeAll failed jobs n met origin z x = (y : Machine Answer locked busy) × Steps failed origin.dialect jobs met n x y × Shows origin z y × (is_some (answer_of n y.answers) ≡ true)

  -- Where it answers a fault of the room all calls that are left to it are made; or its first call, or the one that frees the lock, met that fault, and the store is as it was.
  abbrev pub Rests : (DrillFault → Answer) → (ℕ → Job Answer locked busy) → ℕ → Type 0 → State → State → State → Machine Answer locked busy → DrillFault → Type 0
  Rests failed jobs n met origin w z x fault.Disk = Unit {0}
  Rests failed jobs n met origin w z x (fault.Full used next) = MakesLast failed jobs n met origin z x (fault.Full used next)
      ⊎ ((z ≡ w) × ((m : Meets failed origin.dialect jobs origin.used origin.limit n x (fault.Full used next)) × ((has_begun Answer locked busy n x ≡ false) ⊎ (m.cause.call ≡ closing))))
  Rests failed jobs n met origin w z x fault.OutOfMemory = HasMadeAll failed jobs n met origin z x ⊎ (z ≡ w)

  -- A step from a machine: it is the machine's, or that of a runner that met a fault, and the store and the runner come to where that leads; or it ends by a fault.
  abbrev pub MovesAs : (DrillFault → Answer) → (ℕ → Job Answer locked busy) → ℕ → Standing Answer locked busy → Standing Answer locked busy → State → State → State → Machine Answer locked busy → Result (Unit {0}) DrillFault → Type 0
  MovesAs failed jobs n before after origin w z x (Ok u) =
      ((y : Machine Answer locked busy) × Steps failed origin.dialect jobs (after.faulted ≡ true) n x y × Arrives jobs n after origin z x y) × ((why : DrillFault) → after.owes why → IsDue failed jobs n before origin x why)
  MovesAs failed jobs n before after origin w z x (Err why) = ((y : Machine Answer locked busy) × Steps failed origin.dialect jobs (after.faulted ≡ true) n x y × Brings origin.dialect x y w z) × IsDue failed jobs n before origin x why × Rests failed jobs n (after.faulted ≡ true) origin w z x why

  -- so it does from whatever machine the store and the runner stood for
  abbrev pub Moves : (DrillFault → Answer) → ℕ → Standing Answer locked busy → Standing Answer locked busy → State → Result (Unit {0}) DrillFault → State → Type 0
  Moves failed n before after w result z = (jobs : ℕ → Job Answer locked busy) (origin : State) (x : Machine Answer locked busy) → origin.dialect ≡ before.dialect → Shows origin w x → Plays jobs n before x
      → MovesAs failed jobs n before after origin w z x result

  -- what a step from a machine leaves at any moment
  pub record LeftInStep (failed : DrillFault → Answer) (d : Dialect) (jobs : ℕ → Job Answer locked busy) (met : Type 0) (n : ℕ) (x : Machine Answer locked busy) (there left : List Entry) : Type 0 where
    pub to : Machine Answer locked busy
    pub steps : Steps failed d jobs met n x to
    pub leaves : LeftBetween d x to there left

  -- A crash at any moment of the step leaves the entries before it, and a front of those that the machine's step brings.
  abbrev pub MovesSafely : (DrillFault → Answer) → ℕ → Standing Answer locked busy → Standing Answer locked busy → State → Crashes → Crashes → Type 0
  MovesSafely failed n before after w c e = (jobs : ℕ → Job Answer locked busy) (origin : State) (x : Machine Answer locked busy) → origin.dialect ≡ before.dialect → Shows origin w x → Plays jobs n before x
      → CrashesLeave w.entries (LeftInStep failed origin.dialect jobs (after.faulted ≡ true) n x) c e

  -- where it met a fault of the store it answers so
  abbrev pub HasMet : (DrillFault → Answer) → ℕ → Standing Answer locked busy → Type 0
  HasMet failed n r = r.faulted ≡ true → MayAnswer locked failed r.answer

  -- it answers a fault of the store exactly where it ends the drill
  abbrev pub EndsBy : (DrillFault → Answer) → Standing Answer locked busy → Result (Unit {0}) DrillFault → Type 0
  EndsBy failed r (Ok u) = (why : DrillFault) → r.answer ≡ Some (failed why) → ⊥
  EndsBy failed r (Err why) = (r.answer ≡ Some (failed why)) × (r.faulted ≡ true)
