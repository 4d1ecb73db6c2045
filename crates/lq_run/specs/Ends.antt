-- How a command ends that runs alone.
use Rattle.std.specs.Prelude.{Bool, List, None, Option, Some, [], false, map, true, ℕ, ◌++◌, ◌+◌, ◌∷◌, ◌≡◌, ◌⊎◌}
use Rattle.lq_base.specs.declared.dialect.Dialect.{Dialect}
use Rattle.lq_hand.specs.Way.{Way}
use Rattle.lq_model.specs.declared.caller.Room.TheVariants.{Ordinary}
use Rattle.lq_model.specs.declared.fault.StoreFault.{StoreFault}
use Rattle.lq_model.specs.declared.fault.StoreFault.TheVariants as fault
use Rattle.lq_run.specs.Does.{Breaks}
use Rattle.lq_run.specs.Stands.{IsBare, IsHeld, IsMarked, Stands, entries_of}
use Rattle.lq_run.specs.Steps.{IsAfterFault, IsThere, Standing, TellsTo, is_disk, place}
use Rattle.lq_run.specs.declared.runner.End.{End}
use Rattle.lq_run.specs.declared.runner.End.TheVariants as end
use Rattle.lq_store.specs.Journal.{State, end_of, is_full, size_of_all}
use Rattle.lq_turns.specs.Rest.{Place, both_of, rest}
use Rattle.lq_turns.specs.Script.{closing, opening}
use Rattle.lq_turns.specs.Session.{Session, all_called, called, room_of}
use Rattle.lq_turns.specs.Set.{Meaning}
use Rattle.lq_turns.specs.declared.call.Call.{Call}
use Rattle.lq_turns.specs.declared.call.Call.TheVariants.{Abort, Alone, Begin, Commit, Execute}
use Rattle.lq_turns.specs.declared.deed.Deed.{Deed}
use Rattle.lq_turns.specs.declared.deed.Deed.TheVariants.{Locks, Rows, Users}
use Rattle.lq_turns.specs.declared.deed.OnLock.TheVariants.{Freed, LockMade, LockRowMade, LogMade, Marked, Taken}
use Rattle.lq_turns.specs.declared.stamp.Stamp.{Stamp}

-- the name, bare or with a mark behind it
abbrev pub IsNameOf : List ℕ → List ℕ → Type 0
IsNameOf who by = (by ≡ who) ⊎ ((mark : List ℕ) × (by ≡ who ++ 124 ∷ mark))

-- the call leaves the lock held by who holds it
abbrev pub HoldsOn : List ℕ → Call → Type 0
HoldsOn who Begin = Unit {0}
HoldsOn who Commit = Unit {0}
HoldsOn who Abort = Unit {0}
HoldsOn who (Alone deeds room) = ⊥
HoldsOn who (Execute (Users s)) = Unit {0}
HoldsOn who (Execute (Rows w)) = Unit {0}
HoldsOn who (Execute (Locks LogMade)) = Unit {0}
HoldsOn who (Execute (Locks LockMade)) = Unit {0}
HoldsOn who (Execute (Locks LockRowMade)) = Unit {0}
HoldsOn who (Execute (Locks (Taken at by))) = ⊥
HoldsOn who (Execute (Locks (Marked by))) = IsNameOf who by
HoldsOn who (Execute (Locks Freed)) = ⊥

abbrev pub AllHoldOn : List ℕ → List Call → Type 0
AllHoldOn who [] = Unit {0}
AllHoldOn who (call ∷ calls) = HoldsOn who call × AllHoldOn who calls

-- the last of the calls frees the lock, and those before it leave it held
pub record KeepsLock (who : List ℕ) (calls : List Call) : Type 0 where
  pub front : List Call
  pub is : calls ≡ front ++ closing ∷ []
  pub holds : AllHoldOn who front

abbrev pub disk_failed : Option StoreFault → Bool
disk_failed None = false
disk_failed (Some why) = is_disk why

-- what a session's calls have written is a front of what the last one's have
pub record IsBefore (s last : Session) : Type 0 where
  pub more : List (List Deed)
  pub entries : last.entries ≡ s.entries ++ more

-- calls led from the first session to this one
pub record CameFrom (d : Dialect) (first s : Session) : Type 0 where
  pub calls : List Call
  pub is : s ≡ all_called d calls first

-- a call that is left after a fault: an abort, or the one that frees the lock
abbrev pub IsLastCall : Call → Type 0
IsLastCall call = (call ≡ Abort) ⊎ (call ≡ closing)

-- the last call alone is to come, or it after an abort
abbrev pub AreLast : List Call → Type 0
AreLast calls = (calls ≡ closing ∷ []) ⊎ (calls ≡ Abort ∷ closing ∷ [])

module _ {Key : Type 0} (d : Dialect) (m : Meaning Key) (stamp : Stamp) (number : ℕ) where
  -- the session after all calls to come
  abbrev pub at_end : Place Key → Session → Session
  at_end p s = all_called d (rest d m stamp p (both_of s)) s

  module _ (start : State) (first last : Session) where
    -- the store stands for a session on the way; after it the lock may have been freed, where it had no mark and nothing was begun
    abbrev pub StandsBefore : State → Type 0
    StandsBefore y = (s : Session) × CameFrom d first s × IsBefore s last × (Stands start number y s ⊎ (IsBare stamp s.committed.lock × (s.begun ≡ []) × Stands start number y (called d closing s)))

    -- the call is on the way; or it frees a lock without a mark after a fault, where nothing was begun
    abbrev pub IsToCome : Call → Session → Type 0
    IsToCome call s = IsBefore (called d call s) last ⊎ ((call ≡ closing) × IsBare stamp s.committed.lock × (s.begun ≡ []) × IsBefore s last)

    -- it is the next call on the way to the last session; or one of those that are left after a fault
    abbrev pub GoesOnBy : Call → Session → Type 0
    GoesOnBy call s = ((others : List Call) × (all_called d (call ∷ others) s ≡ last)) ⊎ IsLastCall call

    -- the disk failed at a call on the way, or at the one that frees the lock after another fault
    pub record BreaksBefore (y : State) : Type 0 where
      pub s : Session
      pub x : State
      pub stands : Stands start number x s
      pub came : CameFrom d first s
      pub call : Call
      pub breaks : Breaks d call s x y
      pub before : IsToCome call s

    -- so much was written when the entries of such a call had no room
    pub record IsFullBefore (used next : ℕ) : Type 0 where
      pub s : Session
      pub came : CameFrom d first s
      pub call : Call
      pub before : IsToCome call s
      pub next_call : GoesOnBy call s
      -- only the call that frees the lock may use all of the journal, and nothing is begun then
      pub which : (room_of call ≡ Ordinary) ⊎ ((call ≡ closing) × (s.begun ≡ []))
      pub used_is : used ≡ start.used + size_of_all (entries_of d s.entries)
      pub more : List (List Deed)
      pub appends : (called d call s).entries ≡ s.entries ++ more
      pub next_is : next ≡ size_of_all (entries_of d more)
      pub full : is_full (end_of (room_of call) start.limit) used (entries_of d more) ≡ true

    -- and no more since
    abbrev pub StaysFull : ℕ → ℕ → Session → Type 0
    StaysFull used next s = (full : IsFullBefore used next) × (s.entries ≡ full.s.entries)

    -- or a fault that was met before says so
    abbrev pub IsFullSince : Option StoreFault → ℕ → ℕ → Session → Type 0
    IsFullSince met used next s = StaysFull used next s ⊎ (met ≡ Some (fault.Full used next))

    -- the fault that is kept now tells of a full journal only so, and then the last calls alone are to come
    abbrev pub KeepsFull : Option StoreFault → Session → List Call → Option StoreFault → Type 0
    KeepsFull met s calls now = (used next : ℕ) → now ≡ Some (fault.Full used next) → (StaysFull used next s × AreLast calls) ⊎ (met ≡ Some (fault.Full used next))

    -- the call that frees the lock; or the one that takes it, where the first session had not, and before which nothing was written
    abbrev pub IsAtLock : Bool → Call → Session → Type 0
    IsAtLock taken call s = (call ≡ closing) ⊎ ((taken ≡ false) × (call ≡ Alone (map Locks (opening stamp first.committed)) Ordinary) × (s.entries ≡ first.entries))

    -- the lock was freed, where it had no mark; or it has a mark
    abbrev pub LetsGo : Session → State → Type 0
    LetsGo s y = (IsBare stamp s.committed.lock × Stands start number y (called d closing s)) ⊎ (IsMarked stamp s.committed.lock × Stands start number y s)

    -- How a full journal leaves the lock: it is let go; or there was no room for the call that frees it, or for the one that takes it.
    abbrev pub RestsAs : Bool → Option StoreFault → ℕ → ℕ → Session → State → Type 0
    RestsAs taken met used next s y = (IsFullSince met used next s × LetsGo s y) ⊎ (Stands start number y s × ((full : StaysFull used next s) × IsAtLock taken full.0.call s))

    -- it ended on the way, and no transaction is open
    pub record RestsBefore (taken : Bool) (met : Option StoreFault) (used next : ℕ) (y : State) : Type 0 where
      pub s : Session
      pub came : CameFrom d first s
      pub before : IsBefore s last
      pub shut : (s.is_open ≡ false) × (s.begun ≡ [])
      pub rests : RestsAs taken met used next s y

    -- How want of memory leaves it: it is let go; or there was no memory for the call that frees it, or for the one that takes it.
    abbrev pub RestsShortAs : Bool → Session → State → Type 0
    RestsShortAs taken s y = LetsGo s y ⊎ (Stands start number y s × (IsBare stamp s.committed.lock ⊎ ((taken ≡ false) × (s.entries ≡ first.entries))))

    -- it ended on the way, and no transaction is open
    pub record RestsShort (taken : Bool) (y : State) : Type 0 where
      pub s : Session
      pub came : CameFrom d first s
      pub before : IsBefore s last
      pub shut : (s.is_open ≡ false) × (s.begun ≡ [])
      pub rests : RestsShortAs taken s y

    -- how the calls end from the first session on, which may have taken the lock; without a fault the store stands for the last one
    abbrev pub EndsAs : Bool → Option StoreFault → End → State → Type 0
    EndsAs taken met end.Done y = Stands start number y last
    EndsAs taken met (end.Refused refusal) y = Stands start number y last
    EndsAs taken met (end.Locked lock) y = ⊥
    EndsAs taken met end.Disk y = BreaksBefore y
    EndsAs taken met (end.Full used next) y = StandsBefore y × RestsBefore taken met used next y
    EndsAs taken met end.OutOfMemory y = StandsBefore y × RestsShort taken y

module _ {Key Told : Type 0} (d : Dialect) (m : Meaning Key) (stamp : Stamp) (number : ℕ) where
  -- The store stands for a session at the command's place, and the command holds the lock until its last call.
  pub record IsRunning (r : Standing Key Told) (x start : State) (s : Session) (told : Told) : Type 0 where
    pub there : IsThere d m stamp number r x start s told
    pub committed : IsHeld stamp s.committed.lock
    pub seen : IsHeld stamp s.seen.lock
    pub keeps : KeepsLock stamp.who (rest d m stamp (place r) (both_of s))
    pub disk : disk_failed r.fault ≡ false

  -- it does so for some session
  pub record Runs (r : Standing Key Told) (x : State) : Type 0 where
    pub start : State
    pub session : Session
    pub told : Told
    pub is : IsRunning r x start session told

  -- the calls to come lead to the last session; or a fault was met, and no other turn comes
  abbrev pub IsOnWay : Standing Key Told → Session → Session → Type 0
  IsOnWay r s last = (at_end d m stamp number (place r) s ≡ last) ⊎ ((why : StoreFault) × (r.fault ≡ Some why) × AreLast (rest d m stamp (place r) (both_of s)) × IsBefore s last)

  -- on the way from the first session to the last
  pub record Reaches (r : Standing Key Told) (x start : State) (first last : Session) (told : Told) : Type 0 where
    pub session : Session
    pub came : CameFrom d first session
    pub is : IsRunning r x start session told
    pub way : IsOnWay r session last

  -- for every session for which it runs, with the fault that it had met before
  abbrev pub RunsOn : Standing Key Told → State → End → State → Type 0
  RunsOn r x e y = (start : State) (s : Session) (told : Told) → IsRunning r x start s told → EndsAs d m stamp number start s (at_end d m stamp number (place r) s) true r.fault e y

  -- and what its source has told then
  abbrev pub TellsOn : Standing Key Told → State → End → (Dialect → Stamp → Told → Way) → Type 0
  TellsOn r x e way = (start : State) (s : Session) (told : Told) → IsRunning r x start s told → IsAfterFault d stamp r told → TellsTo (way d stamp told) e
