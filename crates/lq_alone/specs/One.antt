-- A runner that takes its steps by itself, until it answers.
use Rattle.std.specs.Prelude.{Err, List, None, Ok, Result, Some, [], false, suc, true, zero, ℕ, ◌++◌, ◌∷◌, ◌≡◌, ◌⊎◌}
use Rattle.lq_base.specs.declared.dialect.Dialect.{Dialect}
use Rattle.lq_base.specs.declared.tracking.Lock.{Lock}
use Rattle.lq_drill.specs.Faults.{LeftBetween, Meets, Shows, Steps, answer_of, has_bar, last_calls}
use Rattle.lq_drill.specs.Player.{Brings, Plays, Rests, Standing, refusal}
use Rattle.lq_drill.specs.declared.fault.DrillFault.{DrillFault}
use Rattle.lq_drill.specs.declared.fault.DrillFault.TheVariants as fault
use Rattle.lq_store.specs.Journal.{Entry, State}
use Rattle.lq_track.specs.Database.{Database}
use Rattle.lq_turns.specs.Schedule.{Job, Machine, start}
use Rattle.lq_turns.specs.Script.{closing}
use Rattle.lq_turns.specs.Session.{Session, aborted, all_called, called, session_on}
use Rattle.lq_turns.specs.declared.call.Call.{Call}

-- what it answers by itself is no answer to a fault of the store
abbrev pub AnswersOwn : {Answer : Type 0} {locked : Lock → Answer} {busy : ℕ → Answer} → (DrillFault → Answer) → Job Answer locked busy → Database → Type 0
AnswersOwn failed job database = (why : DrillFault) → (job.answer database ≡ failed why → ⊥) × (refusal job database ≡ Some (failed why) → ⊥)

module _ {Answer : Type 0} {locked : Lock → Answer} {busy : ℕ → Answer} (failed : DrillFault → Answer) (job : Job Answer locked busy) (origin : State) (database : Database) where
  abbrev pub Runs : Type 0
  Runs = Machine Answer locked busy

  -- it has answered no fault
  abbrev pub HasNotFailed : Runs → Type 0
  HasNotFailed x = (why : DrillFault) → answer_of 1 x.answers ≡ Some (failed why) → ⊥

  -- so many of its steps lead to this machine, where it met a fault or not
  abbrev pub CameTo : Type 0 → ℕ → Runs → Type 0
  CameTo met zero x = x ≡ start Answer locked busy database
  CameTo met (suc k) x = (y : Runs) × CameTo met k y × HasNotFailed y × Steps failed origin.dialect (λ n. job) met 1 y x

  -- it met this fault at one of them, and wrote nothing since
  pub record MetAt (met : Type 0) (now : Runs) (why : DrillFault) : Type 0 where
    pub steps : ℕ
    pub at : Runs
    pub came : CameTo met steps at
    pub meets : Meets failed origin.dialect (λ n. job) origin.used origin.limit 1 at why
    pub since : AnswersOwn failed job database → now.entries ≡ at.entries

  -- the store and the runner stand for the machine of so many steps
  pub record Follows (r : Standing Answer locked busy) (y : State) : Type 0 where
    pub steps : ℕ
    pub now : Runs
    pub came : CameTo (r.faulted ≡ true) steps now
    pub going : HasNotFailed now
    pub shows : Shows origin y now
    pub plays : Plays (λ n. job) 1 r now
    pub owed : r.answer ≡ None → (why : DrillFault) → r.owes why → MetAt (r.faulted ≡ true) now why

  -- it answered a fault of the store
  pub record Stops (r : Standing Answer locked busy) (y : State) (why : DrillFault) : Type 0 where
    pub steps : ℕ
    pub now : Runs
    pub came : CameTo (r.faulted ≡ true) steps now
    pub going : HasNotFailed now
    pub silent : answer_of 1 now.answers ≡ None
    pub before : State
    pub shows : Shows origin before now
    pub to : Runs
    pub steps_to : Steps failed origin.dialect (λ n. job) (r.faulted ≡ true) 1 now to
    pub brings : Brings origin.dialect now to before y
    pub same : (y.dialect ≡ before.dialect) × (y.limit ≡ before.limit)
    pub answer : r.answer ≡ Some (failed why)
    pub met : MetAt (r.faulted ≡ true) now why
    pub rests : Rests failed (λ n. job) 1 (r.faulted ≡ true) origin before y now why

  -- it has answered; or answered a fault; or it gave up on the way
  abbrev pub RanAlone : Standing Answer locked busy → Result (Unit {0}) DrillFault → State → Type 0
  RanAlone r (Ok u) y = ((a : Answer) × (r.answer ≡ Some a)) × Follows r y
  RanAlone r (Err why) y = Stops r y why ⊎ ((why ≡ fault.OutOfMemory) × Follows r y)

  -- what a crash at any moment leaves: behind the entries that were there a front of those that its steps have brought
  pub record LeftAlone (met : Type 0) (there left : List Entry) : Type 0 where
    pub steps : ℕ
    pub now : Runs
    pub came : CameTo met steps now
    pub leaves : LeftBetween origin.dialect (start Answer locked busy database) now there left

-- The machine of one runner, at each of its steps.

-- some of a command's calls were made, and one is to come
pub record IsCut (calls : List Call) : Type 0 where
  pub first : Call
  pub more : List Call
  pub next : Call
  pub rest : List Call
  pub is : calls ≡ (first ∷ more) ++ next ∷ rest

module _ {Answer : Type 0} {as_locked : Lock → Answer} {busy : ℕ → Answer} where
  -- the runner is under way in this session, with these calls to come
  abbrev pub way : Session → List Call → Answer → List ℕ → Machine Answer as_locked busy
  way s rest a older = record { committed = s.committed; holder = Some (record { runner = 1; session = s; rest = rest; answer = a }); begun = 1 ∷ older; answers = []; entries = s.entries }

  -- it has answered, in this session
  abbrev pub over : Session → Answer → List ℕ → Machine Answer as_locked busy
  over s a older = record { committed = s.committed; holder = None; begun = older; answers = (1, a) ∷ []; entries = s.entries }

  module _ (failed : DrillFault → Answer) (d : Dialect) (job : Job Answer as_locked busy) (database : Database) where
    abbrev pub calls : List Call
    calls = job.script database

    -- the session after the first of its calls
    abbrev pub after : List Call → Session
    after made = all_called d made (session_on database)

    abbrev pub HasEnded : Session → Answer → Machine Answer as_locked busy → Type 0
    HasEnded s a x = (older : List ℕ) × (x ≡ over s a older)

    -- it is refused, and answers so at its first step
    pub record WasRefused (x : Machine Answer as_locked busy) : Type 0 where
      pub answer : Answer
      pub is : refusal job database ≡ Some answer
      pub ended : HasEnded (session_on database) answer x

    -- it has made some of its calls, and others are to come
    pub record IsOnWay (x : Machine Answer as_locked busy) : Type 0 where
      pub passes : refusal job database ≡ None
      pub cut : IsCut calls
      pub older : List ℕ
      pub is : x ≡ way (after (cut.first ∷ cut.more)) (cut.next ∷ cut.rest) (job.answer database) older

    -- it has made them all, and answers what it comes to
    pub record HasMade (x : Machine Answer as_locked busy) : Type 0 where
      pub passes : refusal job database ≡ None
      pub ended : HasEnded (after calls) (job.answer database) x

    -- After some of its calls it met a fault. It may have taken its transaction back.
    pub record MetFault (s : Session) : Type 0 where
      pub passes : refusal job database ≡ None
      pub cut : IsCut calls
      pub why : DrillFault
      pub from : (s ≡ after (cut.first ∷ cut.more)) ⊎ (s ≡ aborted (after (cut.first ∷ cut.more)))
      pub idle : s.is_open ≡ false → s.begun ≡ []

    -- and has some of its last calls to make
    pub record IsGivingUp (x : Machine Answer as_locked busy) : Type 0 where
      pub session : Session
      pub met : MetFault session
      pub last : Call
      pub lasts : List Call
      pub to_come : last_calls session ≡ last ∷ lasts
      pub held : session.committed.lock.locked ≡ true
      pub older : List ℕ
      pub is : x ≡ way session (last ∷ lasts) (failed met.why) older

    -- or has made them: the lock has a mark and stays held, or it was freed
    pub record HasGivenUp (x : Machine Answer as_locked busy) : Type 0 where
      pub session : Session
      pub met : MetFault session
      pub shut : session.is_open ≡ false
      pub held : session.committed.lock.locked ≡ true
      pub by : ((has_bar session.committed.lock ≡ true) × HasEnded session (failed met.why) x) ⊎ ((has_bar session.committed.lock ≡ false) × HasEnded (called d closing session) (failed met.why) x)

    -- after a step it stands at one of these, where it met a fault or not
    abbrev pub StandsLater : Type 0 → Machine Answer as_locked busy → Type 0
    StandsLater met x = WasRefused x ⊎ (IsOnWay x ⊎ (HasMade x ⊎ ((met × IsGivingUp x) ⊎ (met × HasGivenUp x))))

    abbrev pub StandsAt : Type 0 → Machine Answer as_locked busy → Type 0
    StandsAt met x = (x ≡ start Answer as_locked busy database) ⊎ StandsLater met x
