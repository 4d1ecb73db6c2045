-- A command as a player.
use Rattle.std.proofs.Common.{ap, inl, inr, subst, ◌∙◌}
use Rattle.std.specs.Option.{option_map}
use Rattle.std.specs.Prelude.{Bool, None, Ok, Option, Result, Some, false, is_some, true, ℕ, ◌≡◌, ◌≤◌}
use Rattle.lq_base.specs.declared.dialect.Dialect.{Dialect}
use Rattle.lq_base.specs.declared.tracking.Lock.{Lock}
use Rattle.lq_drill.specs.Faults.{LetsBe}
use Rattle.lq_drill.specs.Player.{EndsBy, HasMet, Moves, MovesSafely, Standing}
use Rattle.lq_drill.specs.declared.fault.DrillFault.{DrillFault}
use Rattle.lq_hand.specs.Hand.{calls_left}
use Rattle.lq_hand.specs.Way.{Way}
use Rattle.lq_hand.specs.declared.hand.Hand.{Hand}
use Rattle.lq_model.specs.declared.fault.StoreFault.{StoreFault}
use Rattle.lq_playing.specs.Answers.{as_busy, as_failed, as_locked, came, fault_of}
use Rattle.lq_playing.specs.Checked.{Work}
use Rattle.lq_playing.specs.Under.{IsPlain, IsUnder, WillAnswer}
use Rattle.lq_resting.specs.Asking.{asks_open}
use Rattle.lq_playing.specs.declared.came.Came.{Came}
use Rattle.lq_playing.specs.declared.came.Report.{Report}
use Rattle.lq_playing.specs.declared.playing.Playing.{Playing}
use Rattle.lq_run.specs.Beside.{Asks}
use Rattle.lq_run.specs.Ends.{disk_failed}
use Rattle.lq_run.specs.Stands.{IsHeld}
use Rattle.lq_run.specs.Steps.{is_over, standing}
use Rattle.lq_run.specs.declared.runner.Runner.{Runner}
use Rattle.lq_store.specs.Journal.{Crashes, State, is_open}
use Rattle.lq_turns.specs.Rest.{Turns}
use Rattle.lq_turns.specs.Schedule.{Holder}
use Rattle.lq_turns.specs.Set.{Meaning}
use Rattle.lq_turns.specs.declared.stamp.Stamp.{Stamp}
use Rattle.lq_turns.specs.declared.stop.Refusal.{Refusal}

-- a lock that a command took is held
pub is_locked : (stamp : Stamp) (lock : Lock) → IsHeld stamp lock → lock.locked ≡ true
is_locked stamp lock (inl is) = ap (λ (l : Lock). l.locked) is
is_locked stamp lock (inr is) = ap (λ (l : Lock). l.locked) is.1

-- a transaction is open where the turn in hand asks for one
abbrev pub opens_as : Bool → Hand → Bool
opens_as true hand = asks_open hand
opens_as false hand = false

module _ {T : Type 0} (reads : T → Dialect → Type 0) where
  -- it has made no call
  pub record IsFresh (faulted : Bool) (r : Runner T) : Type 0 where
    pub reads_it : reads r.source r.dialect
    pub moment : r.stamp.reading ≤ 253402300799999
    pub plain : IsPlain r.stamp
    pub unstopped : (r.fault ≡ None) × (r.refused ≡ None)
    pub met : faulted ≡ is_some r.fault

  -- it has a call to come, for which the session has open what it asks for
  pub record IsGoing (faulted : Bool) (r : Runner T) : Type 0 where
    pub reads_it : reads r.source r.dialect
    pub moment : r.stamp.reading ≤ 253402300799999
    pub plain : IsPlain r.stamp
    pub goes : is_over r.hand.phase ≡ false
    pub asks : Asks r.dialect r.hand.phase (calls_left r.hand) (asks_open r.hand)
    pub disk : disk_failed r.fault ≡ false
    -- and remembers whether it met a fault of the store
    pub met : faulted ≡ is_some r.fault

  abbrev pub IsReadyAs : Bool → Bool → Runner T → Type 0
  IsReadyAs true faulted r = IsGoing faulted r
  IsReadyAs false faulted r = IsFresh faulted r

module _ {Key Told T : Type 0} (m : Meaning Key) (left : T → Turns Key) (way : T → Dialect → Stamp → Told → Way) (reads : T → Dialect → Type 0) (job : T → Dialect → Stamp → Work) (ends : T → Option Refusal → Came) (reports : T → Report) where
  abbrev pub stands : Playing T → Standing Came as_locked as_busy
  stands p = record {
    ready = p.answer ≡ None → IsReadyAs reads p.begun p.faulted p.runner;
    dialect = p.runner.dialect;
    opens = opens_as p.begun p.runner.hand;
    faulted = p.faulted;
    owes = λ why. (fault : StoreFault) × (p.runner.fault ≡ Some fault) × (fault_of fault ≡ why);
    job = job p.runner.source p.runner.dialect p.runner.stamp;
    begun = p.begun;
    is_at = IsUnder p.runner.dialect m p.runner.stamp (standing left way p.runner) way ends;
    owns = IsHeld p.runner.stamp;
    answer = option_map (came (reports p.runner.source)) p.answer;
  }

  -- the fault that it met is what it is to answer
  pub is_owed : (p : Playing T) (why : DrillFault) (h : Holder Came as_locked as_busy) → (stands p).owes why → (stands p).is_at h → h.answer ≡ as_failed why
  is_owed p why h owed at = subst (λ f. WillAnswer p.runner.dialect m p.runner.stamp (standing left way p.runner) way ends at.told f h.answer) owed.1 at.answers ∙ ap as_failed owed.2

-- what a step of a player comes to
pub record Took (session : ℕ) (before after : Standing Came as_locked as_busy) (x y : State) (c e : Crashes) (result : Result (Unit {0}) DrillFault) : Type 0 where
  pub live : result ≡ Ok tt → y.live ≡ true
  pub dialect : after.dialect ≡ before.dialect
  pub ready : after.ready
  pub opens : y.live ≡ true → is_open session y.begun ≡ after.opens
  pub shut : is_some after.answer ≡ true → after.opens ≡ false
  pub lets_be : LetsBe session x y
  pub owns : (lock : Lock) → after.owns lock → before.owns lock
  pub faulted : before.faulted ≡ true → after.faulted ≡ true
  pub met : HasMet as_failed session after
  pub ends : EndsBy as_failed after result
  pub moves : Moves as_failed session before after x result y
  pub crash : MovesSafely as_failed session before after x c e
