-- A step of a command that has begun.
use Rattle.std.specs.Prelude.{Bool, List, None, Option, Some, [], false, true, ℕ, ◌∷◌, ◌≡◌, ◌⊎◌}
use Rattle.lq_base.specs.declared.dialect.Dialect.{Dialect}
use Rattle.lq_base.specs.declared.tracking.Lock.{Lock}
use Rattle.lq_hand.specs.Hand.{calls_left, place_of}
use Rattle.lq_hand.specs.Way.{Expects, IsUnderWay, Way, coming_of, no_progress, progress_after, refusal_by, refused_in}
use Rattle.lq_hand.specs.declared.hand.Hand.{Hand}
use Rattle.lq_hand.specs.declared.hand.Phase.{Phase}
use Rattle.lq_hand.specs.declared.hand.Phase.TheVariants as phase
use Rattle.lq_hand.specs.declared.progress.Coming.{Coming}
use Rattle.lq_hand.specs.declared.progress.Coming.TheVariants as coming
use Rattle.lq_hand.specs.declared.progress.Progress.{Progress}
use Rattle.lq_model.specs.Catalogue.{Catalogue}
use Rattle.lq_model.specs.declared.caller.Room.TheVariants.{Ordinary, Release}
use Rattle.lq_model.specs.declared.fault.StoreFault.{StoreFault}
use Rattle.lq_model.specs.declared.fault.StoreFault.TheVariants as fault
use Rattle.lq_run.specs.Moves.{Goes, IsAt, Meets, refusal_of, unseen}
use Rattle.lq_run.specs.Stands.{IsBare, IsHeld, IsMarked}
use Rattle.lq_run.specs.declared.runner.End.{End}
use Rattle.lq_run.specs.declared.runner.End.TheVariants as end
use Rattle.lq_run.specs.declared.runner.Runner.{Runner}
use Rattle.lq_run.specs.declared.runner.Step.{Step}
use Rattle.lq_run.specs.declared.runner.Step.TheVariants as step
use Rattle.lq_store.specs.Journal.{State, other}
use Rattle.lq_track.specs.Database.{Database}
use Rattle.lq_turns.specs.Deed.{Contents}
use Rattle.lq_turns.specs.Rest.{GivingUp, Inside, NoMore, Over, Place, Turns, between, both_of, if_goes_on, rest}
use Rattle.lq_turns.specs.Schedule.{StandsFor}
use Rattle.lq_turns.specs.Script.{closing}
use Rattle.lq_turns.specs.Session.{Both, Session, are_accepted, called, went}
use Rattle.lq_turns.specs.Set.{Meaning}
use Rattle.lq_turns.specs.declared.call.Call.{Call}
use Rattle.lq_turns.specs.declared.call.Call.TheVariants.{Abort}
use Rattle.lq_turns.specs.declared.stamp.Stamp.{Stamp}
use Rattle.lq_turns.specs.declared.stop.Refusal.{Refusal}

-- how a command stands between two of its steps
pub record Standing (Key Told : Type 0) : Type 1 where
  pub hand : Hand
  -- the turns that its source has, and what that holds on its way to having told so much
  pub turns : Turns Key
  pub way : Dialect → Stamp → Told → Way
  -- how far the turn in hand has come
  pub progress : Progress
  -- after a fault of the store, or a refused statement, no other turn is entered
  pub fault : Option StoreFault
  pub refused : Option Refusal

abbrev pub standing : {Key Told T : Type 0} → (T → Turns Key) → (T → Dialect → Stamp → Told → Way) → Runner T → Standing Key Told
standing left way r = record { hand = r.hand; turns = left r.source; way = way r.source; progress = r.progress; fault = r.fault; refused = r.refused }

abbrev pub enters_turns : Option StoreFault → Option Refusal → Bool
enters_turns None None = true
enters_turns None (Some refusal) = false
enters_turns (Some why) refused = false

abbrev pub turns_of : {Key Told : Type 0} → Standing Key Told → Turns Key
turns_of r = if_goes_on (enters_turns r.fault r.refused) r.turns

abbrev pub place : {Key Told : Type 0} → Standing Key Told → Place Key
place r = place_of r.hand (turns_of r)

-- no turn is in hand
abbrev pub IsBetween : Hand → Type 0
IsBetween hand = (hand.phase ≡ phase.Inside) × (hand.calls ≡ [])

abbrev pub no_turn : Hand
no_turn = record { phase = phase.Inside; calls = []; goes_on = true }

-- what a fault of the store comes to
abbrev pub end_of : StoreFault → End
end_of fault.Disk = end.Disk
end_of (fault.Full used next) = end.Full used next
end_of fault.OutOfMemory = end.OutOfMemory
end_of (fault.Busy n) = end.OutOfMemory
end_of fault.NotSql = end.OutOfMemory
end_of (fault.Refused reason) = end.OutOfMemory

-- and a command whose last call is made
abbrev pub last_end : Option StoreFault → Option Refusal → End
last_end (Some why) refused = end_of why
last_end None (Some refusal) = end.Refused refusal
last_end None None = end.Done

-- what stops the command after a call that was refused, or was not
abbrev pub stopped_by : Option Refusal → Bool → Option Refusal → Option Refusal
stopped_by None goes_on before = before
stopped_by (Some refusal) true before = before
stopped_by (Some refusal) false before = Some refusal

-- between two turns none has begun
abbrev pub progress_at : Phase → List Call → Progress → Progress
progress_at phase.Inside [] p = no_progress
progress_at phase.Inside (call ∷ calls) p = p
progress_at phase.GivingUp calls p = p
progress_at phase.Over calls p = p

abbrev pub progress_in : {Key Told : Type 0} → Standing Key Told → Progress
progress_in r = progress_at r.hand.phase r.hand.calls r.progress

-- what the source holds, with these calls left of the turn in hand
abbrev pub KnownIn : Dialect → Way → Bool → List Call → Progress → Both → Type 0
KnownIn d way goes_on [] p x = way.knows x.0
KnownIn d way goes_on (call ∷ calls) p x = Expects d way goes_on (call ∷ calls) p x

-- what it holds at a place; where a refusal has stopped the command, all is told
abbrev pub Known : {Key : Type 0} → Dialect → Way → Option Refusal → Place Key → Progress → Both → Type 0
Known d way None (Inside calls goes_on turns) p x = KnownIn d way goes_on calls p x
Known d way None (GivingUp turns) p x = way.knows x.0
Known d way None Over p x = Unit {0}
Known d way (Some refusal) (Inside [] goes_on turns) p x = way.tells (Some refusal)
Known d way (Some refusal) (Inside (call ∷ calls) goes_on turns) p x = ⊥
Known d way (Some refusal) (GivingUp turns) p x = way.tells (Some refusal)
Known d way (Some refusal) Over p x = Unit {0}

-- what it holds of the calls that are left, where it has looked at what the first of them sees
pub record ExpectsNext (d : Dialect) (way : Way) (goes_on : Bool) (calls : List Call) (p : Progress) (x : Both) : Type 0 where
  pub finished : are_accepted d calls x.1 ≡ true → way.awaits (unseen d calls x.1) (went d calls x).0
  pub refused : (refusal : Refusal) → refused_in d calls p x.1 ≡ Some refusal → way.yields goes_on refusal (went d calls x).0

abbrev pub KnownNext : Dialect → Way → Option Refusal → Bool → List Call → Progress → Both → Type 0
KnownNext d way None goes_on calls p x = ExpectsNext d way goes_on calls p x
KnownNext d way (Some refusal) goes_on calls p x = ⊥

-- before a user's statement what it sees is looked at
abbrev pub shown : Coming → Catalogue → List Catalogue → List Catalogue
shown (coming.Statement commits) users more = users ∷ more
shown coming.Commit users more = more
shown coming.Other users more = more

abbrev pub is_statement : Coming → Bool
is_statement (coming.Statement commits) = true
is_statement coming.Commit = false
is_statement coming.Other = false

-- no other session has a transaction open
abbrev pub IsShowing : ℕ → State → Type 0
IsShowing number x = other number x ≡ None

-- before a statement the source has looked at what is seen
pub record Shows (d : Dialect) (call : Coming) (seen : Catalogue) (before after : Way) : Type 0 where
  pub knows : (c : Contents) → before.knows c → after.knows c
  pub awaits : (database : Database) → StandsFor d seen database → (more : List Catalogue) (c : Contents) → before.awaits (shown call database.users more) c → after.awaits more c
  pub yields : (goes_on : Bool) (refusal : Refusal) (c : Contents) → before.yields goes_on refusal c → after.yields goes_on refusal c

-- where a command has ended its source has told all
abbrev pub TellsAs : Way → End → Type 0
TellsAs way end.Done = way.tells None
TellsAs way (end.Refused refusal) = way.tells (Some refusal)
TellsAs way (end.Locked lock) = Unit {0}
TellsAs way end.Disk = Unit {0}
TellsAs way (end.Full used next) = Unit {0}
TellsAs way end.OutOfMemory = Unit {0}

module _ {Key : Type 0} (d : Dialect) (m : Meaning Key) (stamp : Stamp) (number : ℕ) where
  -- the last call is made, or it meets a fault
  abbrev pub Closes : Place Key → End → State → Session → State → End → State → Type 0
  Closes p last start s x e y = (Goes d m stamp number p Over start s y × (e ≡ last)) ⊎ ((why : StoreFault) × Meets d m stamp number p start s x Release why y × (e ≡ end_of why))

  -- after a fault a lock that has a mark stays held
  abbrev pub Ends : Place Key → Option StoreFault → Option Refusal → State → Session → State → End → State → Type 0
  Ends p None refused start s x e y = Closes p (last_end None refused) start s x e y
  Ends p (Some why) refused start s x e y = (IsBare stamp s.committed.lock × Closes p (end_of why) start s x e y) ⊎ (IsMarked stamp s.committed.lock × (y ≡ x) × (e ≡ end_of why))

  -- from each place from which the last call alone is to come

  abbrev pub ClosesFor : End → State → Step → State → Type 0
  ClosesFor last x step.Going y = ⊥
  ClosesFor last x (step.Ended e) y = (p : Place Key) (start : State) (s : Session) → IsAt d m stamp number p x start s → rest d m stamp p (both_of s) ≡ closing ∷ [] → Closes p last start s x e y

  abbrev pub EndsFor : Option StoreFault → Option Refusal → State → Step → State → Type 0
  EndsFor why refused x step.Going y = ⊥
  EndsFor why refused x (step.Ended e) y = (p : Place Key) (start : State) (s : Session) → IsAt d m stamp number p x start s → rest d m stamp p (both_of s) ≡ closing ∷ [] → Ends p why refused start s x e y

module _ {Key Told : Type 0} (d : Dialect) (m : Meaning Key) (stamp : Stamp) (number : ℕ) where
  -- the store stands for a session at the command's place, and its source knows the contents, on its way to having told so much
  pub record IsThere (r : Standing Key Told) (x start : State) (s : Session) (told : Told) : Type 0 where
    pub at : IsAt d m stamp number (place r) x start s
    pub known : r.fault ≡ None → Known d (r.way d stamp told) r.refused (place r) r.progress (both_of s)

  -- the source has looked at what the next call sees as well
  pub record IsShown (r : Standing Key Told) (x start : State) (s : Session) (told : Told) : Type 0 where
    pub at : IsAt d m stamp number (place r) x start s
    pub known : r.fault ≡ None → KnownNext d (r.way d stamp told) r.refused r.hand.goes_on (calls_left r.hand) r.progress (both_of s)

  -- the next call of the script was made
  pub record Advances (before after : Standing Key Told) (told : Told) (start : State) (s : Session) (y : State) : Type 0 where
    pub goes : Goes d m stamp number (place before) (place after) start s y
    pub known : after.fault ≡ None → Known d (after.way d stamp told) after.refused (place after) after.progress (both_of goes.after)
    pub fault : after.fault ≡ before.fault
    pub progress : after.progress ≡ progress_after (coming_of d goes.went.call) (refusal_of d goes.went.call s) (progress_in before)
    pub refused : after.refused ≡ stopped_by (refusal_by after.progress (refusal_of d goes.went.call s)) after.hand.goes_on before.refused

  -- it met a fault of the store, which left the session as it was; its transaction is to be taken back
  pub record Falls (before after : Standing Key Told) (start : State) (s : Session) (x y : State) : Type 0 where
    pub why : StoreFault
    pub meets : Meets d m stamp number (place before) start s x Ordinary why y
    pub fault : after.fault ≡ Some why
    pub gives_up : place after ≡ GivingUp NoMore
    pub at : IsAt d m stamp number (place after) y start s

  -- there was no memory for its text: the transaction is taken back
  pub record TakesBack (after : Standing Key Told) (start : State) (s : Session) (y : State) : Type 0 where
    pub opened : s.is_open ≡ true
    pub fault : after.fault ≡ Some fault.OutOfMemory
    pub ends_turns : place after ≡ between NoMore
    pub at : IsAt d m stamp number (place after) y start (called d Abort s)

  -- at its end the last call was made; or between two turns there was no memory for another; or the disk failed
  abbrev pub EndsStep : Standing Key Told → State → Session → State → End → State → Type 0
  EndsStep before start s x e y = ((s.is_open ≡ false) × Ends d m stamp number (place before) before.fault before.refused start s x e y)
      ⊎ (((s.is_open ≡ false) × Ends d m stamp number (between NoMore) (Some fault.OutOfMemory) before.refused start s x e y) ⊎ (Meets d m stamp number (place before) start s x Ordinary fault.Disk y × (e ≡ end.Disk)))

  abbrev pub StepsAs : Standing Key Told → Standing Key Told → Told → State → Session → State → Step → State → Type 0
  StepsAs before after told start s x step.Going y = Advances before after told start s y ⊎ (Falls before after start s x y ⊎ TakesBack after start s y)
  StepsAs before after told start s x (step.Ended e) y = EndsStep before start s x e y × TellsAs (after.way d stamp told) e

  -- for every session for which the store stands there, where the lock is still held
  abbrev pub Steps : Standing Key Told → Standing Key Told → State → Step → State → Type 0
  Steps before after x result y = (start : State) (s : Session) (told : Told) → IsThere before x start s told → (IsBetween before.hand → IsHeld stamp s.committed.lock) → StepsAs before after told start s x result y

  -- and where the source has looked at what the next call sees
  abbrev pub StepsShown : Standing Key Told → Standing Key Told → State → Step → State → Type 0
  StepsShown before after x result y = (start : State) (s : Session) (told : Told) → IsShown before x start s told → StepsAs before after told start s x result y

-- the answer tells the lock, where there is memory for it
abbrev pub TellsLock : Lock → Step → Type 0
TellsLock lock step.Going = ⊥
TellsLock lock (step.Ended (end.Locked it)) = it ≡ lock
TellsLock lock (step.Ended end.OutOfMemory) = Unit {0}
TellsLock lock (step.Ended end.Done) = ⊥
TellsLock lock (step.Ended (end.Refused refusal)) = ⊥
TellsLock lock (step.Ended end.Disk) = ⊥
TellsLock lock (step.Ended (end.Full used next)) = ⊥

-- between two turns of a command that no longer holds the lock nothing is called
abbrev pub Loses : Dialect → Stamp → Hand → State → Step → State → Type 0
Loses d stamp hand x result y = IsBetween hand → x.dialect ≡ d → (database : Database) → StandsFor d x.committed database → (IsHeld stamp database.lock → ⊥) → (y ≡ x) × TellsLock database.lock result

abbrev pub is_over : Phase → Bool
is_over phase.Over = true
is_over phase.Inside = false
is_over phase.GivingUp = false

-- whether a call is still to be made
abbrev pub GoesOn : Step → Phase → Type 0
GoesOn step.Going at = is_over at ≡ false
GoesOn (step.Ended e) at = is_over at ≡ true

abbrev pub is_disk : StoreFault → Bool
is_disk fault.Disk = true
is_disk (fault.Full used next) = false
is_disk fault.OutOfMemory = false
is_disk (fault.Busy n) = false
is_disk fault.NotSql = false
is_disk (fault.Refused reason) = false

-- what comes of a fault in a transaction
abbrev pub FailsAs : Bool → StoreFault → Phase → Option StoreFault → Step → Type 0
FailsAs true why at after result = (result ≡ step.Ended end.Disk) × (at ≡ phase.Over)
FailsAs false why at after result = (result ≡ step.Going) × (at ≡ phase.GivingUp) × (after ≡ Some why)

abbrev pub FailsTo : StoreFault → Phase → Option StoreFault → Step → Type 0
FailsTo why at after result = FailsAs (is_disk why) why at after result

-- What a source has told where a full journal ends its command.

-- at a full journal
abbrev pub IfFull : End → Type 0 → Type 0
IfFull (end.Full used next) holds = holds
IfFull end.Done holds = Unit {0}
IfFull (end.Refused refusal) holds = Unit {0}
IfFull (end.Locked lock) holds = Unit {0}
IfFull end.Disk holds = Unit {0}
IfFull end.OutOfMemory holds = Unit {0}

-- where its command has ended a source has told all; at a full journal it is still on its way
abbrev pub TellsTo : Way → End → Type 0
TellsTo way e = TellsAs way e × IfFull e (IsUnderWay way)

-- after a fault no call of a turn is made, and the source is on its way
abbrev pub AfterFault : Option StoreFault → Hand → Way → Type 0
AfterFault None hand way = Unit {0}
AfterFault (Some why) hand way = (hand.phase ≡ phase.Inside → hand.calls ≡ []) × IsUnderWay way

module _ {Key Told : Type 0} (d : Dialect) (stamp : Stamp) where
  -- a command stands so after a fault
  abbrev pub IsAfterFault : Standing Key Told → Told → Type 0
  IsAfterFault r told = AfterFault r.fault r.hand (r.way d stamp told)

  -- after a step it still does, or does by now; or the step ended the command
  abbrev pub StaysAs : Standing Key Told → Told → Step → Type 0
  StaysAs after told step.Going = IsAfterFault after told
  StaysAs after told (step.Ended e) = IfFull e (IsUnderWay (after.way d stamp told))

module _ {Key Told : Type 0} (d : Dialect) (m : Meaning Key) (stamp : Stamp) (number : ℕ) where
  -- from wherever it stands
  abbrev pub Stays : Standing Key Told → Standing Key Told → State → Step → Type 0
  Stays before after x result = (start : State) (s : Session) (told : Told) → IsThere d m stamp number before x start s told → (IsBetween before.hand → IsHeld stamp s.committed.lock)
      → IsAfterFault d stamp before told → StaysAs d stamp after told result

  -- and where the source has looked at what the next call sees
  abbrev pub StaysShown : Standing Key Told → Standing Key Told → State → Step → Type 0
  StaysShown before after x result = (start : State) (s : Session) (told : Told) → IsShown d m stamp number before x start s told → IsAfterFault d stamp before told → StaysAs d stamp after told result
