-- What the checks of a command come to on the database that they see.
use Rattle.std.specs.Prelude.{Bool, Err, None, Ok, Option, Result, Some, [], false, true, ℕ, ◌&&◌, ◌∷◌, ◌≡◌, ◌⊎◌}
use Rattle.lq_base.specs.declared.dialect.Dialect.{Dialect}
use Rattle.lq_base.specs.declared.tracking.Lock.{Lock}
use Rattle.lq_beside.specs.Replays.{calls_fit}
use Rattle.lq_drill.specs.declared.fault.DrillFault.{DrillFault}
use Rattle.lq_hand.specs.Hand.{AreTurns, calls_left, place_of}
use Rattle.lq_hand.specs.Way.{Way, no_progress}
use Rattle.lq_hand.specs.declared.hand.Hand.{Hand}
use Rattle.lq_hand.specs.declared.hand.Phase.TheVariants as phase
use Rattle.lq_model.specs.Catalogue.{Catalogue}
use Rattle.lq_model.specs.declared.caller.Room.TheVariants.{Ordinary}
use Rattle.lq_model.specs.declared.fault.StoreFault.{StoreFault}
use Rattle.lq_model.specs.declared.fault.StoreFault.TheVariants as fault
use Rattle.lq_playing.specs.Answers.{as_busy, as_locked, came, failure_of, fault_of, is_failure}
use Rattle.lq_playing.specs.declared.came.Came.{Came}
use Rattle.lq_playing.specs.declared.came.Report.{Report}
use Rattle.lq_playing.specs.declared.checks.OneCall.{OneCall}
use Rattle.lq_playing.specs.declared.checks.Verdict.{Verdict}
use Rattle.lq_playing.specs.declared.checks.Verdict.TheVariants as verdict
use Rattle.lq_run.specs.Commands.{both_on, script}
use Rattle.lq_run.specs.Does.{AllWritable, AloneFor, MayFill}
use Rattle.lq_run.specs.Ends.{AllHoldOn}
use Rattle.lq_run.specs.Moves.{TakesLock}
use Rattle.lq_run.specs.Stands.{Stands}
use Rattle.lq_run.specs.Steps.{KnownIn}
use Rattle.lq_store.specs.Journal.{State, other}
use Rattle.lq_track.specs.Database.{Database}
use Rattle.lq_turns.specs.Deed.{all_done}
use Rattle.lq_turns.specs.Rest.{Turns}
use Rattle.lq_turns.specs.Schedule.{Job, StandsFor, all_fit}
use Rattle.lq_turns.specs.Script.{closing}
use Rattle.lq_turns.specs.Session.{Session, called, session_on}
use Rattle.lq_turns.specs.Set.{Meaning}
use Rattle.lq_turns.specs.declared.answer.Answer.{Answer}
use Rattle.lq_turns.specs.declared.answer.Answer.TheVariants.{Busy, Locked}
use Rattle.lq_turns.specs.declared.call.Call.TheVariants.{Alone}
use Rattle.lq_turns.specs.declared.stamp.Stamp.{Stamp}
use Rattle.lq_turns.specs.declared.stop.Refusal.{Refusal}

-- a job of a player
abbrev pub Work : Type 0
Work = Job Came as_locked as_busy

-- the lock does not keep it out
abbrev pub IsLetIn : Work → Database → Type 0
IsLetIn job database = (job.needs_lock && database.lock.locked) ≡ false

-- it passes its checks, makes no call, and comes to this
pub record MakesNone (job : Work) (a : Came) (database : Database) : Type 0 where
  pub passes : job.refuses database ≡ None
  pub script_is : job.script database ≡ []
  pub answer_is : job.answer database ≡ a

abbrev pub AnswersAtOnce : Work → Came → Database → Type 0
AnswersAtOnce job a database = (job.refuses database ≡ Some a) ⊎ MakesNone job a database

-- it makes one call, whose deeds fit and are accepted, and which leaves the lock free; with its answer it tells so much
pub record MakesOne (d : Dialect) (job : Work) (report : Report) (call : OneCall) (database : Database) : Type 0 where
  pub passes : job.refuses database ≡ None
  pub script_is : job.script database ≡ Alone call.deeds call.room ∷ []
  pub answer_is : job.answer database ≡ came report call.answer
  pub fits : all_fit d call.deeds database ≡ true
  pub accepted : (now : Database) × (all_done d call.deeds database ≡ Ok now)
  pub free : (called d (Alone call.deeds call.room) (session_on database)).committed.lock.locked ≡ false
  -- only the call that frees the lock may use all of the journal
  pub which : (call.room ≡ Ordinary) ⊎ (Alone call.deeds call.room ≡ closing)

-- the turn in hand, of which no call is made
pub record IsInHand (d : Dialect) (stamp : Stamp) (hand : Hand) : Type 0 where
  pub inside : hand.phase ≡ phase.Inside
  pub turn : AreTurns d false (calls_left hand)
  pub holds : AllHoldOn stamp.who (calls_left hand)

module _ {Key Told T : Type 0} (d : Dialect) (m : Meaning Key) (stamp : Stamp) (way : T → Dialect → Stamp → Told → Way) (ends : T → Option Refusal → Came) (job : Work) where
  -- It takes the lock, and makes the turns to come, whose calls fit. Their source knows what it will have told, and where it has, the command comes to what the job does.
  pub record MakesTurns (turns : Turns Key) (source : T) (hand : Hand) (database : Database) : Type 0 where
    pub told : Told
    pub passes : job.refuses database ≡ None
    pub script_is : job.script database ≡ script d m stamp (place_of hand turns) database
    pub answers : (last : T) (refused : Option Refusal) → (way last d stamp told).tells refused → ends last refused ≡ job.answer database
    pub knows : KnownIn d (way source d stamp told) hand.goes_on (calls_left hand) no_progress (both_on database)
    pub fits : calls_fit d (script d m stamp (place_of hand turns) database) (session_on database) ≡ true

  -- on each database that is seen, and whose lock lets it in
  abbrev pub OnSeen : Catalogue → (Database → Type 0) → Type 0
  OnSeen seen holds = (database : Database) → StandsFor d seen database → IsLetIn job database → holds database

  -- what it did so far goes with its answer
  abbrev pub Checked : (T → Report) → Turns Key → T → Catalogue → Verdict → Type 0
  Checked reports turns source seen (verdict.Answer a) = (is_failure a ≡ false) × OnSeen seen (AnswersAtOnce job (came (reports source) a))
  Checked reports turns source seen (verdict.OneCall call) = (is_failure call.answer ≡ false) × AllWritable d call.deeds × MayFill call.room call.deeds × OnSeen seen (MakesOne d job (reports source) call)
  Checked reports turns source seen (verdict.Turns hand) = IsInHand d stamp hand × OnSeen seen (MakesTurns turns source hand)
  Checked reports turns source seen verdict.Lack = Unit {0}

-- What a player does at its first step.

-- the lock, where there is memory for it
abbrev pub TellsHeld : Lock → Verdict → Type 0
TellsHeld lock (verdict.Answer a) = a ≡ Locked lock
TellsHeld lock verdict.Lack = Unit {0}
TellsHeld lock (verdict.OneCall call) = ⊥
TellsHeld lock (verdict.Turns hand) = ⊥

-- the session that has a transaction open
abbrev pub TellsBusy : StoreFault → Verdict → Type 0
TellsBusy (fault.Busy n) v = v ≡ verdict.Answer (Busy n)
TellsBusy fault.Disk v = v ≡ verdict.Lack
TellsBusy (fault.Full used next) v = v ≡ verdict.Lack
TellsBusy (fault.Refused reason) v = v ≡ verdict.Lack
TellsBusy fault.NotSql v = v ≡ verdict.Lack
TellsBusy fault.OutOfMemory v = v ≡ verdict.Lack

-- an answer without a call: the lock that keeps it out, or the session that has a transaction open, or what its command answers at once
abbrev pub AnswersBeside : Option ℕ → Work → Came → Database → Type 0
AnswersBeside (Some n) job a database = a ≡ as_busy n
AnswersBeside None job a database = AnswersAtOnce job a database

abbrev pub AnswersFirst : Bool → Option ℕ → Work → Came → Database → Type 0
AnswersFirst true open_by job a database = a ≡ as_locked database.lock
AnswersFirst false open_by job a database = AnswersBeside open_by job a database

-- no other session has a transaction open, and the lock does not keep it out
abbrev pub MayCall : ℕ → State → Work → Database → Type 0
MayCall session x job database = (other session x ≡ None) × IsLetIn job database

-- on each database for which the store stands
abbrev pub OnIts : Dialect → State → (Database → Type 0) → Type 0
OnIts d x holds = x.dialect ≡ d → (database : Database) → StandsFor d x.committed database → holds database

module _ {Key Told T : Type 0} (d : Dialect) (m : Meaning Key) (stamp : Stamp) (way : T → Dialect → Stamp → Told → Way) (ends : T → Option Refusal → Came) (job : Work) where
  abbrev pub Judged : (T → Report) → Turns Key → T → ℕ → State → Verdict → Type 0
  Judged reports turns source session x (verdict.Answer a) = (is_failure a ≡ false) × OnIts d x (λ database. AnswersFirst (job.needs_lock && database.lock.locked) (other session x) job (came (reports source) a) database)
  Judged reports turns source session x (verdict.OneCall call) = (is_failure call.answer ≡ false) × AllWritable d call.deeds × MayFill call.room call.deeds × OnIts d x (λ database. MayCall session x job database × MakesOne d job (reports source) call database)
  Judged reports turns source session x (verdict.Turns hand) = IsInHand d stamp hand × OnIts d x (λ database. MayCall session x job database × MakesTurns d m stamp way ends job turns source hand database)
  Judged reports turns source session x verdict.Lack = Unit {0}

-- the one call of a command is made, from every session for which the store stands; or it met a fault
abbrev pub CallsOnce : Dialect → ℕ → OneCall → State → Result Answer DrillFault → State → Type 0
CallsOnce d session call x (Ok a) y = (a ≡ call.answer)
    × ((start : State) (s : Session) → start.dialect ≡ d → Stands start session x s → all_fit d call.deeds s.seen ≡ true → Stands start session y (called d (Alone call.deeds call.room) s))
CallsOnce d session call x (Err why) y = (fault : StoreFault) × (fault_of fault ≡ why) × AloneFor d session call.deeds call.room x (Err fault) y

-- a command has taken the lock, and is to be called again; or it met a fault
abbrev pub Begins : Dialect → Stamp → ℕ → State → State → Bool → Option Answer → Bool → Bool → Option Answer → Bool → Result (Unit {0}) DrillFault → Type 0
Begins d stamp session x y begun answers faulted begun_now answers_now faulted_now (Ok u) = TakesLock d stamp session x (Ok tt) y × (begun_now ≡ true) × (answers_now ≡ answers) × (faulted_now ≡ faulted)
Begins d stamp session x y begun answers faulted begun_now answers_now faulted_now (Err why) = (begun_now ≡ begun) × (answers_now ≡ Some (failure_of why)) × (faulted_now ≡ true) × ((fault : StoreFault) × (fault_of fault ≡ why) × TakesLock d stamp session x (Err fault) y)
