-- What is left in words of databases: by a call that is a transaction of its own, and by a command that a fault of the store ended.
use Rattle.std.specs.Option.{option_map}
use Rattle.std.specs.Prelude.{Err, List, None, Ok, Result, Some, [], false, map, true, ℕ, ◌++◌, ◌+◌, ◌∷◌, ◌≡◌, ◌⊎◌}
use Rattle.lq_base.specs.declared.dialect.Dialect.{Dialect}
use Rattle.lq_base.specs.declared.identity.Identity.{Identity}
use Rattle.lq_base.specs.declared.tracking.Lock.{Lock}
use Rattle.lq_base.specs.declared.tracking.Tracked.{Tracked}
use Rattle.lq_beside.specs.Replays.{calls_fit}
use Rattle.lq_drill.specs.Faults.{IsLetGo, freed}
use Rattle.lq_model.specs.Catalogue.{is_empty}
use Rattle.lq_model.specs.declared.caller.Room.{Room}
use Rattle.lq_model.specs.declared.caller.Room.TheVariants.{Ordinary}
use Rattle.lq_model.specs.declared.fault.StoreFault.{StoreFault}
use Rattle.lq_model.specs.declared.fault.StoreFault.TheVariants as fault
use Rattle.lq_run.specs.Commands.{HasDatabase, Leaves, OnAll, script}
use Rattle.lq_run.specs.Ends.{IsLastCall}
use Rattle.lq_run.specs.Stands.{entries_of}
use Rattle.lq_run.specs.Steps.{Standing, place}
use Rattle.lq_run.specs.declared.runner.End.{End}
use Rattle.lq_run.specs.declared.runner.End.TheVariants as end
use Rattle.lq_store.specs.Calls.{Fails, aborted}
use Rattle.lq_store.specs.Journal.{State, end_of, is_full, size_of_all}
use Rattle.lq_track.specs.Database.{Database}
use Rattle.lq_track.specs.Log.{identity_of}
use Rattle.lq_turns.specs.Deed.{all_done}
use Rattle.lq_turns.specs.Script.{clear_calls, closing, last_row, opening, release_calls, tag_calls}
use Rattle.lq_turns.specs.Session.{all_called, called, room_of, session_on}
use Rattle.lq_turns.specs.Set.{Meaning}
use Rattle.lq_turns.specs.Stops.{IsLeft, Journal, has_mark, is_mark, joined}
use Rattle.lq_turns.specs.declared.call.Call.{Call}
use Rattle.lq_turns.specs.declared.call.Call.TheVariants.{Alone}
use Rattle.lq_turns.specs.declared.deed.Deed.TheVariants.{Locks}
use Rattle.lq_turns.specs.declared.deed.OnLock.TheVariants.{Freed}
use Rattle.lq_turns.specs.declared.stamp.Stamp.{Stamp}

-- one of these calls frees the lock
pub record HasClosing (calls : List Call) : Type 0 where
  pub before : List Call
  pub after : List Call
  pub is : calls ≡ before ++ closing ∷ after

-- what was written is a front of the entries of these calls
abbrev pub IsFrontIn : Dialect → List Call → Database → Journal → Type 0
IsFrontIn d calls database written = (rest : Journal) × ((all_called d calls (session_on database)).entries ≡ written ++ rest)

-- One of these calls frees the lock, and what was written is a front of their entries, behind which the lock is held without a mark, and then the entry that frees it.
pub record IsClosedIn (d : Dialect) (calls : List Call) (database : Database) (written : Journal) : Type 0 where
  pub closes : HasClosing calls
  pub front : Journal
  pub is_front : IsFrontIn d calls database front
  pub now : Database
  pub led : all_done d (joined front) database ≡ Ok now
  pub held : now.lock.locked ≡ true
  pub unmarked : has_mark now.lock ≡ false
  pub is : written ≡ front ++ freed

-- more than a front of their entries is left only by calls of which one frees the lock, and only behind a front that leaves it held
abbrev pub ClosesHeld : Dialect → List Call → Database → Journal → Type 0
ClosesHeld d calls database written = IsFrontIn d calls database written ⊎ IsClosedIn d calls database written

-- after those that were made the call is the next on the way to where these calls lead; or, where one of them frees the lock, one of those that are left after a fault
abbrev pub IsNextIn : Dialect → List Call → Database → List Call → Call → Type 0
IsNextIn d calls database made call = ((others : List Call) × (all_called d (made ++ call ∷ others) (session_on database) ≡ all_called d calls (session_on database))) ⊎ (IsLastCall call × HasClosing calls)

-- Behind what was written, a front of the entries of these calls, those of the next call have no room; only what frees the lock may use all of the journal.
pub record IsFullIn (d : Dialect) (calls : List Call) (database : Database) (x : State) (used next : ℕ) : Type 0 where
  pub written : Journal
  pub more : Journal
  pub stops : IsLeft d calls database [] written
  pub comes : IsLeft d calls database [] (written ++ more)
  -- the calls that were made, and the next one
  pub made : List Call
  pub call : Call
  pub wrote : (all_called d made (session_on database)).entries ≡ written
  pub appends : (called d call (all_called d made (session_on database))).entries ≡ written ++ more
  pub next_call : IsNextIn d calls database made call
  pub used_is : used ≡ x.used + size_of_all (entries_of d written)
  pub next_is : next ≡ size_of_all (entries_of d more)
  pub room : Room
  pub in_room : room ≡ room_of call
  pub which : (room ≡ Ordinary) ⊎ (more ≡ (Locks Freed ∷ []) ∷ [])
  pub full : is_full (end_of room x.limit) used (entries_of d more) ≡ true

-- The journal goes on with what a stop of these calls may leave, and its database is where that leads, a transaction that is open taken back.
pub record StopsIn (d : Dialect) (calls : List Call) (database : Database) (x y : State) : Type 0 where
  pub written : Journal
  pub left : IsLeft d calls database [] written
  pub closes : ClosesHeld d calls database written
  pub now : Database
  pub led : all_done d (joined written) database ≡ Ok now
  pub database_is : HasDatabase d (aborted y) now
  pub limit : y.limit ≡ x.limit
  pub entries : y.entries ≡ option_map (λ entries. entries ++ entries_of d written) x.entries
  pub used : y.used ≡ x.used + size_of_all (entries_of d written)

-- what was written, and possibly the entry that frees the lock behind it
abbrev pub IsAtMostFreed : Journal → Journal → Type 0
IsAtMostFreed written after = (after ≡ written) ⊎ (after ≡ written ++ freed)

-- How the lock is left where the journal's room ended these calls: it is let go; or what had no room is the entry that frees it; or nothing was written.
abbrev pub LeavesLock : Lock → Journal → Journal → Type 0
LeavesLock lock next written = IsLetGo lock ⊎ ((next ≡ freed) ⊎ (written ≡ []))

-- Where the journal's room ended these calls: the journal goes on with what was written by then, and possibly the entry that frees the lock. No transaction is open.
pub record RestsIn (d : Dialect) (calls : List Call) (database : Database) (x y : State) (used next : ℕ) : Type 0 where
  pub stops : StopsIn d calls database x y
  pub full : IsFullIn d calls database x used next
  pub behind : IsAtMostFreed full.written stops.written
  pub shut : y.begun ≡ None
  pub lock : LeavesLock stops.now.lock full.more stops.written

-- the lock is as the first of these calls left it
pub record IsAsTaken (d : Dialect) (calls : List Call) (database : Database) (lock : Lock) : Type 0 where
  pub first : Call
  pub others : List Call
  pub is : calls ≡ first ∷ others
  pub same : lock ≡ (called d first (session_on database)).committed.lock

-- How the lock is left where want of memory ended these calls: it is let go; or there was no memory for the call that frees it; or nothing was written.
abbrev pub LeavesShort : Dialect → List Call → Database → Lock → Journal → Type 0
LeavesShort d calls database lock written = IsLetGo lock ⊎ (IsAsTaken d calls database lock ⊎ (written ≡ []))

-- Where want of memory ended these calls: the journal goes on with what was written by then, and possibly the entry that frees the lock. No transaction is open.
pub record RestsShortIn (d : Dialect) (calls : List Call) (database : Database) (x y : State) : Type 0 where
  pub stops : StopsIn d calls database x y
  pub shut : y.begun ≡ None
  pub lock : LeavesShort d calls database stops.now.lock stops.written

-- done, it leaves what the call does; only a fault of the disk leaves something, a front of its entry; nothing is refused
abbrev pub LeavesOnce : Dialect → List Call → Database → State → Result (Unit {0}) StoreFault → State → Type 0
LeavesOnce d calls database x (Ok u) y = Leaves d calls database x y
LeavesOnce d calls database x (Err fault.Disk) y = Fails (entries_of d (all_called d calls (session_on database)).entries) x y
LeavesOnce d calls database x (Err (fault.Full used next)) y = (y ≡ x) × RestsIn d calls database x y used next
LeavesOnce d calls database x (Err fault.OutOfMemory) y = (y ≡ x) × RestsShortIn d calls database x y
LeavesOnce d calls database x (Err (fault.Busy n)) y = ⊥
LeavesOnce d calls database x (Err fault.NotSql) y = ⊥
LeavesOnce d calls database x (Err (fault.Refused reason)) y = ⊥

-- the call that takes a command's lock, on every database
abbrev pub LeavesOpened : Dialect → Stamp → State → Result (Unit {0}) StoreFault → State → Type 0
LeavesOpened d stamp x result y = (database : Database) → HasDatabase d x database → LeavesOnce d (Alone (map Locks (opening stamp database)) Ordinary ∷ []) database x result y

-- a tag's, on every database whose last row has the identity, and into which the tag goes
abbrev pub LeavesTagged : Dialect → Identity → List ℕ → State → Result (Unit {0}) StoreFault → State → Type 0
LeavesTagged d of tag x result y = (database : Database) (row : Tracked) → HasDatabase d x database → last_row database.rows ≡ Some row → identity_of row ≡ of
    → calls_fit d (tag_calls tag database) (session_on database) ≡ true → LeavesOnce d (tag_calls tag database) database x result y

-- a clear-checksums', on every database with rows
abbrev pub LeavesCleared : Dialect → State → Result (Unit {0}) StoreFault → State → Type 0
LeavesCleared d x result y = (database : Database) → HasDatabase d x database → is_empty database.rows ≡ false
    → calls_fit d (clear_calls database) (session_on database) ≡ true → LeavesOnce d (clear_calls database) database x result y

-- a release-locks', on every database whose lock is held
abbrev pub LeavesReleased : Dialect → State → Result (Unit {0}) StoreFault → State → Type 0
LeavesReleased d x result y = (database : Database) → HasDatabase d x database → database.lock.locked ≡ true
    → calls_fit d (release_calls database) (session_on database) ≡ true → LeavesOnce d (release_calls database) database x result y

-- the disk failed, and a front of what a stop of these calls may leave is written
pub record BreaksIn (d : Dialect) (calls : List Call) (database : Database) (x y : State) : Type 0 where
  pub written : Journal
  pub left : IsLeft d calls database [] written
  pub closes : ClosesHeld d calls database written
  pub fails : Fails (entries_of d written) x y

-- so a command ends that met a fault
abbrev pub LeftAs : Dialect → List Call → Database → State → End → State → Type 0
LeftAs d calls database x end.Done y = Unit {0}
LeftAs d calls database x (end.Refused refusal) y = Unit {0}
LeftAs d calls database x (end.Locked lock) y = Unit {0}
LeftAs d calls database x end.Disk y = BreaksIn d calls database x y
LeftAs d calls database x (end.Full used next) y = RestsIn d calls database x y used next
LeftAs d calls database x end.OutOfMemory y = RestsShortIn d calls database x y

-- on every database whose contents are known, and on which its calls fit, where the command's name has no mark of its own
abbrev pub LeftAll : {Key Told : Type 0} → Dialect → Meaning Key → Stamp → Standing Key Told → State → End → State → Type 0
LeftAll d m stamp r x e y = is_mark stamp.who ≡ false → OnAll d m stamp r x (λ database told. LeftAs d (script d m stamp (place r) database) database x e y)
