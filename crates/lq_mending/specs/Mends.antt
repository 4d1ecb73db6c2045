-- What taking statements back leaves, in words of sessions.
use Rattle.std.specs.Prelude.{Err, List, None, Ok, Option, Result, Some, [], false, true, ℕ, ◌++◌, ◌+◌, ◌∷◌, ◌≡◌, ◌⊎◌}
use Rattle.lq_base.specs.declared.dialect.Dialect.{Dialect}
use Rattle.lq_drill.specs.Faults.{has_bar}
use Rattle.lq_mending.specs.Comes.{AreMade, LeftOf, at_end, refused_from}
use Rattle.lq_model.specs.Catalogue.{Catalogue}
use Rattle.lq_model.specs.declared.caller.Room.TheVariants.{Ordinary}
use Rattle.lq_model.specs.declared.statement.Statement.{Statement}
use Rattle.lq_run.specs.Commands.{HasDatabase}
use Rattle.lq_run.specs.Does.{Breaks}
use Rattle.lq_run.specs.Ends.{CameFrom, IsBefore}
use Rattle.lq_run.specs.Left.{RestsIn}
use Rattle.lq_run.specs.Stands.{Stands, entries_of}
use Rattle.lq_run.specs.declared.runner.End.{End}
use Rattle.lq_run.specs.declared.runner.End.TheVariants as end
use Rattle.lq_store.specs.Journal.{Crashes, CrashesLeave, State, end_of, is_full, size_of_all}
use Rattle.lq_track.specs.Database.{Database}
use Rattle.lq_turns.specs.Script.{closing}
use Rattle.lq_turns.specs.Session.{Session, all_called, called, room_of}
use Rattle.lq_turns.specs.Stops.{Journal}
use Rattle.lq_turns.specs.declared.call.Call.{Call}
use Rattle.lq_turns.specs.declared.deed.Deed.TheVariants.{Locks}
use Rattle.lq_turns.specs.declared.deed.OnLock.TheVariants.{Freed}
use Rattle.lq_turns.specs.declared.stop.Refusal.{Refusal}

-- the store stands for a session without a transaction, and the lock has its row
pub record Rests (d : Dialect) (number : ℕ) (start x : State) (s : Session) : Type 0 where
  pub dialect : start.dialect ≡ d
  pub stands : Stands start number x s
  pub shut : s.is_open ≡ false
  pub row : (s.committed.has_lock_row ≡ true) × (s.seen.has_lock_row ≡ true)

-- it does so for some session
pub record SomeRests (d : Dialect) (number : ℕ) (x : State) : Type 0 where
  pub start : State
  pub session : Session
  pub is : Rests d number start x session

-- a database is there whose lock has its row
pub record MayRepair (d : Dialect) (x : State) : Type 0 where
  pub database : Database
  pub has : HasDatabase d x database
  pub row : database.has_lock_row ≡ true

module _ (d : Dialect) (number : ℕ) (start : State) (first last : Session) where
  -- the store stands for a session on the way to the last one, which has no transaction
  pub record Waits (y : State) : Type 0 where
    pub session : Session
    pub came : CameFrom d first session
    pub before : IsBefore session last
    pub stands : Stands start number y session
    pub shut : session.is_open ≡ false

  -- the disk failed at a call on the way
  pub record Broke (y : State) : Type 0 where
    pub session : Session
    pub x : State
    pub stands : Stands start number x session
    pub call : Call
    pub breaks : Breaks d call session x y
    pub before : IsBefore (called d call session) last

  -- a call on the way had no room; only the one that frees the lock may use all of the journal
  pub record WasFull (used next : ℕ) : Type 0 where
    pub session : Session
    pub came : CameFrom d first session
    pub call : Call
    pub more : Journal
    pub appends : (called d call session).entries ≡ session.entries ++ more
    pub before : IsBefore (called d call session) last
    pub others : List Call
    pub goes_on : all_called d (call ∷ others) session ≡ last
    pub used_is : used ≡ start.used + size_of_all (entries_of d session.entries)
    pub next_is : next ≡ size_of_all (entries_of d more)
    pub which : (room_of call ≡ Ordinary) ⊎ (more ≡ (Locks Freed ∷ []) ∷ [])
    pub full : is_full (end_of (room_of call) start.limit) used (entries_of d more) ≡ true

  -- without a fault the store stands for the last session, which has no transaction
  abbrev pub EndsAt : End → State → Type 0
  EndsAt end.Done y = Stands start number y last × (last.is_open ≡ false)
  EndsAt (end.Refused refusal) y = Stands start number y last × (last.is_open ≡ false)
  EndsAt (end.Locked lock) y = ⊥
  EndsAt end.Disk y = Broke y
  EndsAt (end.Full used next) y = (waits : Waits y) × (full : WasFull used next) × (waits.session.entries ≡ full.session.entries)
  EndsAt end.OutOfMemory y = Waits y

-- the calls were made, and the store stands for a session after them
pub record Goes (d : Dialect) (number : ℕ) (calls : List Call) (start : State) (s : Session) (y : State) : Type 0 where
  pub after : Session
  pub rests : Rests d number start y after
  pub made : AreMade d calls [] s after

-- of the calls that take one statement back: they were made, or it ended at one of them
abbrev pub TakesAs : Dialect → ℕ → List Call → State → Session → Result (Unit {0}) End → State → Type 0
TakesAs d number calls start s (Ok u) y = Goes d number calls start s y
TakesAs d number calls start s (Err e) y = (tail : List Call) → EndsAt d number start s (at_end d calls tail s) e y

abbrev pub Takes : Dialect → ℕ → List Call → State → Result (Unit {0}) End → State → Type 0
Takes d number calls x result y =
    (start : State) (s : Session) → Rests d number start x s → TakesAs d number calls start s result y

-- and a refusal is the one of the statement that takes it back
abbrev pub TellsOne : Dialect → ℕ → Option Statement → Session → Result (Unit {0}) End → Type 0
TellsOne d n undoing s (Ok u) = Unit {0}
TellsOne d n undoing s (Err end.Done) = ⊥
TellsOne d n undoing s (Err (end.Refused refusal)) =
    (more : Catalogue → Option Refusal) → refused_from d more n undoing s.seen.users ≡ Some refusal
TellsOne d n undoing s (Err e) = Unit {0}

abbrev pub Tells : Dialect → ℕ → ℕ → Option Statement → State → Result (Unit {0}) End → Type 0
Tells d number n undoing x result =
    (start : State) (s : Session) → Rests d number start x s → TellsOne d n undoing s result

-- a crash at any moment leaves a front of the entries of these calls, whatever comes behind them
abbrev pub CrashesTaking : Dialect → ℕ → List Call → State → Crashes → Crashes → Type 0
CrashesTaking d number calls x before now =
    (start : State) (s : Session) (tail : List Call) → Rests d number start x s
    → CrashesLeave start.entries (LeftOf d (at_end d calls tail s)) before now

-- the call that frees the lock was made, or met a fault; nothing refuses it
abbrev pub IsFreed : End → Type 0
IsFreed (end.Refused refusal) = ⊥
IsFreed e = Unit {0}

abbrev pub Frees : Dialect → ℕ → State → End → State → Type 0
Frees d number x e y =
    (start : State) (s : Session) → Rests d number start x s
    → EndsAt d number start s (called d closing s) e y × IsFreed e

abbrev pub CrashesFreeing : Dialect → ℕ → State → Crashes → Crashes → Type 0
CrashesFreeing d number x before now =
    (start : State) (s : Session) → Rests d number start x s
    → CrashesLeave start.entries (LeftOf d (called d closing s)) before now

-- by how a repair ended: it was refused so, or was not
abbrev pub TellsEnd : Option Refusal → End → Type 0
TellsEnd refused end.Done = refused ≡ None
TellsEnd refused (end.Refused refusal) = refused ≡ Some refusal
TellsEnd refused e = Unit {0}

-- a full journal is told as full as it was, and leaves it and the lock so
abbrev pub TellsFull : Dialect → List Call → Database → State → End → State → Type 0
TellsFull d calls database x (end.Full used next) y = RestsIn d calls database x y used next
TellsFull d calls database x e y = Unit {0}

-- for each database for which the store stands, whose lock has its row
abbrev pub OnLocked : Dialect → State → (Database → Type 0) → Type 0
OnLocked d x holds = (database : Database) → HasDatabase d x database → database.has_lock_row ≡ true → holds database

-- and a mark
abbrev pub OnMarked : Dialect → State → (Database → Type 0) → Type 0
OnMarked d x holds = (database : Database) → HasDatabase d x database → database.has_lock_row ≡ true → has_bar database.lock ≡ true → holds database
