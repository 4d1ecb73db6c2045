-- What a crash of the machine at any moment of a call, a step or a run leaves, in words of sessions.
use Rattle.std.specs.Prelude.{List, None, Option, [], false, is_some, map, true, ℕ, ◌++◌, ◌∷◌, ◌≡◌, ◌⊎◌}
use Rattle.lq_base.specs.declared.dialect.Dialect.{Dialect}
use Rattle.lq_beside.specs.Replays.{call_fits}
use Rattle.lq_hand.specs.Hand.{place_of}
use Rattle.lq_hand.specs.declared.hand.Hand.{Hand}
use Rattle.lq_model.specs.declared.caller.Room.TheVariants.{Ordinary}
use Rattle.lq_model.specs.declared.fault.StoreFault.{StoreFault}
use Rattle.lq_run.specs.Crashes.{CrashesLeave}
use Rattle.lq_run.specs.Ends.{CameFrom, IsBefore, IsRunning, at_end}
use Rattle.lq_run.specs.Moves.{IsAt}
use Rattle.lq_run.specs.Stands.{IsBare, IsHeld, Stands, entries_of}
use Rattle.lq_run.specs.Steps.{IsBetween, IsThere, Standing, place}
use Rattle.lq_store.specs.Journal.{Crashes, Entry, State}
use Rattle.lq_turns.specs.Rest.{Place, Turns, both_of, rest}
use Rattle.lq_turns.specs.Script.{closing, opening}
use Rattle.lq_turns.specs.Session.{Session, called, room_of}
use Rattle.lq_turns.specs.Set.{Meaning}
use Rattle.lq_turns.specs.Stops.{Journal}
use Rattle.lq_turns.specs.declared.call.Call.{Call}
use Rattle.lq_turns.specs.declared.call.Call.TheVariants.{Alone}
use Rattle.lq_turns.specs.declared.deed.Deed.TheVariants.{Locks}
use Rattle.lq_turns.specs.declared.stamp.Stamp.{Stamp}

-- Of a call.

-- the entries that were there, alone
abbrev pub LeftAlone : List Entry → List Entry → Type 0
LeftAlone there left = left ≡ there

-- the entries that were there, and a front of those that the session's call appends
pub record LeftInCall (d : Dialect) (call : Call) (s : Session) (there left : List Entry) : Type 0 where
  pub front : Journal
  pub more : Journal
  pub appends : (called d call s).entries ≡ s.entries ++ (front ++ more)
  pub is : left ≡ there ++ entries_of d front

-- a call of each session for which the store stands
abbrev pub CrashesFor : Dialect → ℕ → Call → State → Crashes → Crashes → Type 0
CrashesFor d number call x before now = (start : State) (s : Session) → start.dialect ≡ d → Stands start number x s → call_fits d call s ≡ true → CrashesLeave x.entries (LeftInCall d call s) before now

-- the call that takes a command's lock
abbrev pub CrashesOpening : Dialect → Stamp → ℕ → State → Crashes → Crashes → Type 0
CrashesOpening d stamp number x before now = (start : State) (s : Session) → start.dialect ≡ d → Stands start number x s → CrashesLeave x.entries (LeftInCall d (Alone (map Locks (opening stamp s.seen)) Ordinary) s) before now

-- the call that frees the lock: after a fault only a lock without a mark is freed
abbrev pub LeftInClosing : Dialect → Stamp → Option StoreFault → Session → List Entry → List Entry → Type 0
LeftInClosing d stamp why s there left = ((why ≡ None) ⊎ IsBare stamp s.committed.lock) × LeftInCall d closing s there left

abbrev pub CrashesClosing : Dialect → Stamp → ℕ → Option StoreFault → State → Crashes → Crashes → Type 0
CrashesClosing d stamp number why x before now = (start : State) (s : Session) → start.dialect ≡ d → Stands start number x s → call_fits d closing s ≡ true → CrashesLeave x.entries (LeftInClosing d stamp why s) before now

-- Of a step.

module _ {Key : Type 0} (d : Dialect) (m : Meaning Key) (stamp : Stamp) (number : ℕ) where
  -- in the next call of the script, one that does not free the lock
  pub record LeftInNext (p : Place Key) (s : Session) (there left : List Entry) : Type 0 where
    pub call : Call
    pub others : List Call
    pub next : rest d m stamp p (both_of s) ≡ call ∷ others
    pub by : room_of call ≡ Ordinary
    pub is : LeftInCall d call s there left

  -- for each session for which the store stands at the place
  abbrev pub CrashesNext : Place Key → State → Crashes → Crashes → Type 0
  CrashesNext p x before now = (start : State) (s : Session) → IsAt d m stamp number p x start s → CrashesLeave x.entries (LeftInNext p s) before now

  -- so a hand's next call, whatever turns come
  abbrev pub CrashesTaken : Hand → State → Crashes → Crashes → Type 0
  CrashesTaken hand x before now = (turns : Turns Key) → CrashesNext (place_of hand turns) x before now

module _ {Key Told : Type 0} (d : Dialect) (m : Meaning Key) (stamp : Stamp) (number : ℕ) where
  -- the lock is freed by the last call of the script, where there was no fault; or after a fault, without a mark, where no transaction is open
  abbrev pub MayFree : Standing Key Told → Option StoreFault → Session → Type 0
  MayFree r met s = ((r.fault ≡ None) × (rest d m stamp (place r) (both_of s) ≡ closing ∷ [])) ⊎ ((is_some met ≡ true) × (IsBare stamp s.committed.lock × (s.is_open ≡ false)))

  -- of a step after which it has met this fault
  abbrev pub LeftInStep : Standing Key Told → Option StoreFault → Session → List Entry → List Entry → Type 0
  LeftInStep r met s there left = LeftInNext d m stamp number (place r) s there left ⊎ (MayFree r met s × LeftInCall d closing s there left)

  -- for each session for which the store stands there, where the lock is still held
  abbrev pub CrashesStep : Standing Key Told → Option StoreFault → State → Crashes → Crashes → Type 0
  CrashesStep r met x before now = (start : State) (s : Session) (told : Told) → IsThere d m stamp number r x start s told → (IsBetween r.hand → IsHeld stamp s.committed.lock) → CrashesLeave x.entries (LeftInStep r met s) before now

-- Of a command.

-- Behind the entries of the start a front of those of the last session, or of what was written where a lock without a mark was freed early; and all that the first session had written.
pub record LeftInRun (d : Dialect) (stamp : Stamp) (first last : Session) (there left : List Entry) : Type 0 where
  pub written : Journal
  pub since : (more : Journal) × (written ≡ first.entries ++ more)
  pub by : ((more : Journal) × (last.entries ≡ written ++ more)) ⊎ ((s : Session) × CameFrom d first s × IsBefore s last × IsBare stamp s.committed.lock × (s.begun ≡ []) × (written ≡ (called d closing s).entries))
  pub is : left ≡ there ++ entries_of d written

-- for every session for which it runs
abbrev pub CrashesOn : {Key Told : Type 0} → Dialect → Meaning Key → Stamp → ℕ → Standing Key Told → State → Crashes → Crashes → Type 0
CrashesOn {Key} {Told} d m stamp number r x before now = (start : State) (s : Session) (told : Told) → IsRunning d m stamp number r x start s told → CrashesLeave start.entries (LeftInRun d stamp s (at_end d m stamp number (place r) s)) before now
