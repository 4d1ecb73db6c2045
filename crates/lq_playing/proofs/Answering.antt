-- What a player's answer makes of its step.
use Rattle.std.proofs.Common.{ap, inl, inr, subst, sym, ◌∙◌}
use Rattle.std.specs.Prelude.{Bool, Err, None, Ok, Option, Result, Some, false, is_some, refl, true, ℕ, ◌≡◌}
use Rattle.lq_base.specs.declared.tracking.Lock.{Lock}
use Rattle.lq_drill.specs.Player.{EndsBy, Moves, MovesSafely, Standing}
use Rattle.lq_drill.specs.Faults.{LetsBe}
use Rattle.lq_drill.specs.declared.fault.DrillFault.{DrillFault}
use Rattle.lq_drill.specs.declared.fault.DrillFault.TheVariants as drill
use Rattle.lq_playing.specs.Answers.{AnswersAs, failure_of, is_failure, tells_locked, as_busy, as_failed, as_locked, came}
use Rattle.lq_playing.specs.declared.came.Came.{Came}
use Rattle.lq_playing.specs.declared.came.Report.{Report}
use Rattle.lq_playing.proofs.Told.{some_none}
use Rattle.lq_playing.specs.Playing.{Took}
use Rattle.lq_run.specs.Beside.{Beside}
use Rattle.lq_store.specs.Journal.{Crashes, State, is_open}
use Rattle.lq_turns.specs.declared.answer.Answer.{Answer}
use Rattle.lq_turns.specs.declared.answer.Answer.TheVariants as answer
use Rattle.lq_turns.specs.declared.answer.Answer.TheVariants.{Locked}

not_true : false ≡ true → ⊥
not_true h = Prim.cc

not_answered : {A X : Type 0} (o : Option A) → o ≡ None → is_some o ≡ true → X
not_answered o none some = absurd (not_true (sym (ap is_some none) ∙ some))

-- an answer that is none to a fault

failure : (why : DrillFault) → is_failure (failure_of why) ≡ true
failure drill.Disk = refl
failure (drill.Full used next) = refl
failure drill.OutOfMemory = refl

same_answer : {a b : Came} → (let o : Option Came = Some a in o) ≡ Some b → a ≡ b
same_answer h = Prim.cc

pub own_answer : (o : Option Came) (a : Came) (why : DrillFault) → o ≡ Some a → is_failure a.answer ≡ false → o ≡ Some (as_failed why) → ⊥
own_answer o a why its own is = not_true (sym own ∙ ap (λ (it : Came). is_failure it.answer) (same_answer (sym its ∙ is)) ∙ failure why)

pub no_answer : (o : Option Came) (why : DrillFault) → o ≡ None → o ≡ Some (as_failed why) → ⊥
no_answer o why none is = some_none (as_failed why) (sym is ∙ none)

-- that the lock is no longer its own is none

pub its_lock : (a : Answer) → tells_locked a ≡ true → (lock : Lock) × (a ≡ Locked lock)
its_lock (answer.Locked lock) is = (lock, refl)
its_lock answer.Done is = absurd (not_true is)
its_lock (answer.Invalid faults) is = absurd (not_true is)
its_lock (answer.Halted identity why) is = absurd (not_true is)
its_lock (answer.Refused identity statement kept reason) is = absurd (not_true is)
its_lock answer.NoTarget is = absurd (not_true is)
its_lock (answer.NotReversible of) is = absurd (not_true is)
its_lock answer.Disk is = absurd (not_true is)
its_lock (answer.Full used next) is = absurd (not_true is)
its_lock (answer.Busy session) is = absurd (not_true is)
its_lock answer.OutOfMemory is = absurd (not_true is)

-- a call of a session as a step of its player
pub lets_be : (session : ℕ) (lost : Bool) (x y : State) → Beside session lost x y → LetsBe session x y
lets_be session lost x y beside = record { grows = record { dialect = beside.dialect; limit = beside.limit; more = beside.more; entries = beside.entries }; others = beside.others }

err_ok : {why : DrillFault} → (let r : Result (Unit {0}) DrillFault = Err why in r) ≡ Ok tt → ⊥
err_ok h = Prim.cc

module _ (session : ℕ) (before after : Standing Came as_locked as_busy) (x y : State) (c e : Crashes) (result : Result (Unit {0}) DrillFault) where
  -- it answers what is none to a fault
  pub answered : (report : Report) (a : Answer) → AnswersAs as_failed (Ok (came report a)) before.faulted after.answer after.faulted result → is_failure a ≡ false → y.live ≡ true → after.dialect ≡ before.dialect → (y.live ≡ true → is_open session y.begun ≡ after.opens) → after.opens ≡ false
      → LetsBe session x y → ((lock : Lock) → after.owns lock → before.owns lock) → after.ready → (after.faulted ≡ true → tells_locked a ≡ true) → Moves as_failed session before after x (Ok tt) y → MovesSafely as_failed session before after x c e → Took session before after x y c e result
  answered report a its own live dialect opens shut lets owns ready locked moves crash = record {
    live = λ ok. live;
    dialect = dialect;
    ready = ready;
    opens = opens;
    shut = λ some. shut;
    lets_be = lets;
    owns = owns;
    faulted = λ was. its.1 ∙ was;
    met = λ bad. let it = its_lock a (locked bad) in inr (inr (it.0, its.0 ∙ ap (λ b. Some (came report b)) it.1));
    ends = subst (EndsBy as_failed after) (sym its.2) (λ why is. own_answer after.answer (came report a) why its.0 own is);
    moves = subst (λ (r : Result (Unit {0}) DrillFault). Moves as_failed session before after x r y) (sym its.2) moves;
    crash = crash;
  }

  -- or a fault of the store
  pub failed_so : (why : DrillFault) → AnswersAs as_failed (Err why) before.faulted after.answer after.faulted result → after.dialect ≡ before.dialect → (y.live ≡ true → is_open session y.begun ≡ after.opens) → after.opens ≡ false
      → LetsBe session x y → ((lock : Lock) → after.owns lock → before.owns lock) → after.ready → Moves as_failed session before after x (Err why) y → MovesSafely as_failed session before after x c e → Took session before after x y c e result
  failed_so why its dialect opens shut lets owns ready moves crash = record {
    live = λ ok. absurd (err_ok (sym its.2 ∙ ok));
    dialect = dialect;
    ready = ready;
    opens = opens;
    shut = λ some. shut;
    lets_be = lets;
    owns = owns;
    faulted = λ was. its.1;
    met = λ bad. inr (inl (why, its.0));
    ends = subst (EndsBy as_failed after) (sym its.2) (its.0, its.1);
    moves = subst (λ (r : Result (Unit {0}) DrillFault). Moves as_failed session before after x r y) (sym its.2) moves;
    crash = crash;
  }

  -- or it goes on
  pub goes_on : result ≡ Ok tt → after.answer ≡ None → y.live ≡ true → after.dialect ≡ before.dialect → (y.live ≡ true → is_open session y.begun ≡ after.opens)
      → LetsBe session x y → ((lock : Lock) → after.owns lock → before.owns lock) → after.ready → (before.faulted ≡ true → after.faulted ≡ true) → Moves as_failed session before after x (Ok tt) y → MovesSafely as_failed session before after x c e → Took session before after x y c e result
  goes_on is none live dialect opens lets owns ready stays moves crash = record {
    live = λ ok. live;
    dialect = dialect;
    ready = ready;
    opens = opens;
    shut = λ some. not_answered after.answer none some;
    lets_be = lets;
    owns = owns;
    faulted = stays;
    met = λ bad. inl none;
    ends = subst (EndsBy as_failed after) (sym is) (λ why it. no_answer after.answer why none it);
    moves = subst (λ (r : Result (Unit {0}) DrillFault). Moves as_failed session before after x r y) (sym is) moves;
    crash = crash;
  }
