-- What a runner makes of a call of its turn.
use Rattle.std.specs.Prelude.{Bool, Err, List, None, Ok, Option, Result, Some, [], map, true, ℕ, ◌++◌, ◌∷◌, ◌≡◌}
use Rattle.lq_base.specs.declared.dialect.Dialect.{Dialect}
use Rattle.lq_base.specs.declared.reason.Reason.{Reason}
use Rattle.lq_beside.specs.Replays.{call_fits, calls_fit}
use Rattle.lq_hand.specs.Hand.{IsReady, calls_left, opens, place_of}
use Rattle.lq_hand.specs.Way.{first_coming, refusal_at, refused_in, seen_after, sights, with_accepted, with_refused}
use Rattle.lq_hand.specs.declared.hand.Hand.{Hand}
use Rattle.lq_hand.specs.declared.hand.Phase.{Phase}
use Rattle.lq_hand.specs.declared.hand.Phase.TheVariants as phase
use Rattle.lq_hand.specs.declared.progress.Progress.{Progress}
use Rattle.lq_model.specs.Catalogue.{Catalogue}
use Rattle.lq_model.specs.declared.caller.Room.{Room}
use Rattle.lq_model.specs.declared.caller.Room.TheVariants.{Ordinary}
use Rattle.lq_model.specs.declared.fault.StoreFault.{StoreFault}
use Rattle.lq_model.specs.declared.fault.StoreFault.TheVariants as fault
use Rattle.lq_run.specs.Does.{DoesAlone, Faults}
use Rattle.lq_run.specs.Stands.{Stands}
use Rattle.lq_run.specs.declared.alone.Tables.{Tables}
use Rattle.lq_run.specs.declared.hand.Moved.{Moved}
use Rattle.lq_run.specs.declared.hand.Moved.TheVariants as moved
use Rattle.lq_store.specs.Journal.{State, is_open, other}
use Rattle.lq_track.specs.Database.{Database}
use Rattle.lq_turns.specs.Deed.{Contents, contents_after, contents_of}
use Rattle.lq_turns.specs.Rest.{GivingUp, Inside, Place, Turns, Went, both_of, if_goes_on, rest}
use Rattle.lq_turns.specs.Schedule.{StandsFor}
use Rattle.lq_turns.specs.Script.{if_missing, opening}
use Rattle.lq_turns.specs.Session.{Session, are_accepted, called, room_of, went}
use Rattle.lq_turns.specs.Set.{Meaning}
use Rattle.lq_turns.specs.declared.call.Call.{Call}
use Rattle.lq_turns.specs.declared.call.Call.TheVariants.{Abort, Alone, Begin, Commit, Execute}
use Rattle.lq_turns.specs.declared.deed.Deed.{Deed}
use Rattle.lq_turns.specs.declared.deed.Deed.TheVariants.{Locks}
use Rattle.lq_turns.specs.declared.deed.OnLock.{OnLock}
use Rattle.lq_turns.specs.declared.deed.OnLock.TheVariants.{LockMade, LockRowMade, LogMade, Taken}
use Rattle.lq_turns.specs.declared.stamp.Stamp.{Stamp}

abbrev pub moved_of : Result (Unit {0}) StoreFault → Moved
moved_of (Ok u) = moved.On
moved_of (Err (fault.Refused reason)) = moved.Refused reason
moved_of (Err fault) = moved.Failed fault

-- without memory for a text nothing changes, and the session's transaction is open
abbrev pub WasOpen : ℕ → State → Moved → State → Type 0
WasOpen number x moved.Lack y = (y ≡ x) × (is_open number x.begun ≡ true)
WasOpen number x moved.On y = Unit {0}
WasOpen number x (moved.Refused reason) y = Unit {0}
WasOpen number x (moved.Failed fault) y = Unit {0}

-- where the turn stands then
abbrev pub MovesTo : Moved → Phase → Type 0
MovesTo moved.On at = at ≡ phase.Inside
MovesTo (moved.Refused reason) at = at ≡ phase.GivingUp
MovesTo (moved.Failed fault) at = Unit {0}
MovesTo moved.Lack at = Unit {0}

abbrev pub reason_in : {A : Type 0} → Result A Reason → Option Reason
reason_in (Ok x) = None
reason_in (Err reason) = Some reason

module _ (d : Dialect) where
  -- why a call of a turn is refused, if it is
  abbrev pub refusal_of : Call → Session → Option Reason
  refusal_of (Execute deed) s = reason_in (contents_after d deed (contents_of s.seen))
  refusal_of Begin s = None
  refusal_of Commit s = None
  refusal_of Abort s = None
  refusal_of (Alone deeds room) s = None

  -- what the user's statements of these calls see, where the first has been looked at
  abbrev pub unseen : List Call → Contents → List Catalogue
  unseen [] c = []
  unseen (Execute deed ∷ calls) c = seen_after d (sights d calls) (contents_after d deed c)
  unseen (call ∷ calls) c = sights d calls c

  -- from where the session has come the calls that are left are accepted alike, see and lead to the same, and are counted on
  pub record Continues (before after : List Call) (s t : Session) : Type 0 where
    pub contents : went d before (both_of s) ≡ went d after (both_of t)
    pub accepted : are_accepted d before (contents_of s.seen) ≡ are_accepted d after (contents_of t.seen)
    pub seen : unseen before (contents_of s.seen) ≡ sights d after (contents_of t.seen)
    pub counted : (p : Progress) → refused_in d before p (contents_of s.seen) ≡ refused_in d after (with_accepted (first_coming d before) p) (contents_of t.seen)

  -- the first of the calls was refused, and so much is committed
  pub record BreaksOff (calls : List Call) (reason : Reason) (s t : Session) : Type 0 where
    pub contents : (went d calls (both_of s)).0 ≡ contents_of t.committed
    pub counted : (p : Progress) → refused_in d calls p (contents_of s.seen) ≡ Some (refusal_at (with_refused (first_coming d calls) p) reason)

module _ {Key : Type 0} (d : Dialect) (m : Meaning Key) (stamp : Stamp) (number : ℕ) where
  -- whatever comes after the call, it was the next of the script
  abbrev pub MakesAs : Call → State → Session → State → Moved → State → Type 0
  MakesAs call start s x moved.On y = Stands start number y (called d call s)
      × ((calls : List Call) (on : Bool) (turns : Turns Key) → Went d m stamp (Inside (call ∷ calls) on turns) (Inside calls on turns) s (called d call s))
      × ((calls : List Call) → Continues d (call ∷ calls) calls s (called d call s)) × (refusal_of d call s ≡ None)
  MakesAs call start s x (moved.Refused reason) y = Stands start number y (called d call s) × (opens call ≡ true)
      × ((calls : List Call) (on : Bool) (turns : Turns Key) → Went d m stamp (Inside (call ∷ calls) on turns) (GivingUp (if_goes_on on turns)) s (called d call s))
      × ((calls : List Call) → BreaksOff d (call ∷ calls) reason s (called d call s)) × (refusal_of d call s ≡ Some reason)
  MakesAs call start s x (moved.Failed fault) y = Faults start number x s Ordinary call fault y × (s.is_open ≡ true)
  MakesAs call start s x moved.Lack y = (y ≡ x) × (s.is_open ≡ true)

  abbrev pub Makes : Call → State → Moved → State → Type 0
  Makes call x result y = (start : State) (s : Session) → start.dialect ≡ d → Stands start number x s → call_fits d call s ≡ true → MakesAs call start s x result y

  -- the store stands for a session at the place, and the calls to come fit
  pub record IsAt (p : Place Key) (x start : State) (s : Session) : Type 0 where
    pub dialect : start.dialect ≡ d
    pub stands : Stands start number x s
    pub ready : IsReady d s.is_open p
    pub fits : calls_fit d (rest d m stamp p (both_of s)) s ≡ true
    -- the lock has its row
    pub row : (s.committed.has_lock_row ≡ true) × (s.seen.has_lock_row ≡ true)

  -- a step to a place by the next call of the script
  pub record Goes (p q : Place Key) (start : State) (s : Session) (y : State) : Type 0 where
    pub after : Session
    pub at : IsAt q y start after
    pub went : Went d m stamp p q s after

  -- the next call of the script met a fault of the store
  pub record Meets (p : Place Key) (start : State) (s : Session) (x : State) (room : Room) (fault : StoreFault) (y : State) : Type 0 where
    pub call : Call
    pub more : List Call
    pub next : rest d m stamp p (both_of s) ≡ call ∷ more
    pub by : room_of call ≡ room
    pub faults : Faults start number x s room call fault y

  -- the first of the calls of a turn was made and accepted
  pub record Accepts (p q : Place Key) (before after : List Call) (start : State) (s : Session) (y : State) : Type 0 where
    pub goes : Goes p q start s y
    pub continues : Continues d before after s goes.after
    pub first : before ≡ goes.went.call ∷ after
    pub none : refusal_of d goes.went.call s ≡ None

  -- or it was refused
  pub record Refuses (p q : Place Key) (calls : List Call) (reason : Reason) (start : State) (s : Session) (y : State) : Type 0 where
    pub goes : Goes p q start s y
    pub breaks_off : BreaksOff d calls reason s goes.after
    pub more : List Call
    pub first : calls ≡ goes.went.call ∷ more
    pub why : refusal_of d goes.went.call s ≡ Some reason

  -- the next call in hand was made, whatever turns come
  abbrev pub TakesAs : Hand → Turns Key → State → Session → State → Moved → Hand → State → Type 0
  TakesAs hand turns start s x moved.On new y = Accepts (place_of hand turns) (place_of new turns) (calls_left hand) (calls_left new) start s y
  TakesAs hand turns start s x (moved.Refused reason) new y = Refuses (place_of hand turns) (place_of new (if_goes_on hand.goes_on turns)) (calls_left hand) reason start s y
  TakesAs hand turns start s x (moved.Failed fault) new y = Meets (place_of hand turns) start s x Ordinary fault y × (s.is_open ≡ true)
  TakesAs hand turns start s x moved.Lack new y = (y ≡ x) × (s.is_open ≡ true)

  abbrev pub Takes : Hand → State → Moved → Hand → State → Type 0
  Takes hand x result new y = (turns : Turns Key) (start : State) (s : Session) → IsAt (place_of hand turns) x start s → TakesAs hand turns start s x result new y

-- The calls of a command that stand alone: the one that takes the lock, a tag's, and the one that frees the lock.

-- the deeds, by what of the tracking tables is there
abbrev pub opening_by : Stamp → Tables → List OnLock
opening_by stamp there = if_missing there.log LogMade ++ (if_missing there.lock LockMade ++ (if_missing there.lock_row LockRowMade ++ Taken stamp.reading stamp.who ∷ []))

-- a command's first deeds on every database that is seen
abbrev pub OpensOn : Dialect → Stamp → Catalogue → List Deed → Type 0
OpensOn d stamp c deeds = (database : Database) → StandsFor d c database → deeds ≡ map Locks (opening stamp database)

-- for every session for which the store stands, its opening is done in a transaction of its own
abbrev pub TakesLock : Dialect → Stamp → ℕ → State → Result (Unit {0}) StoreFault → State → Type 0
TakesLock d stamp number x result y = (start : State) (s : Session) → start.dialect ≡ d → Stands start number x s → DoesAlone start number x s (map Locks (opening stamp s.seen)) Ordinary result y

-- before it there was no memory, or another session has a transaction open
abbrev pub FailsFirst : ℕ → State → StoreFault → Type 0
FailsFirst number x fault.OutOfMemory = Unit {0}
FailsFirst number x (fault.Busy n) = other number x ≡ Some n
FailsFirst number x fault.Disk = ⊥
FailsFirst number x fault.NotSql = ⊥
FailsFirst number x (fault.Full used next) = ⊥
FailsFirst number x (fault.Refused reason) = ⊥
