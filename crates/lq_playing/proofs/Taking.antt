-- What each step of a player comes to.
use Rattle.std.proofs.Common.{ap, inl, inr, subst, sym, ◌∙◌}
use Rattle.std.specs.Option.{option_map}
use Rattle.std.specs.Prelude.{Bool, Err, IfErr, IfOk, List, None, Ok, Option, Result, Some, [], false, if◌then◌else◌, is_some, map, refl, true, ℕ, ◌||◌, ◌∷◌, ◌≡◌, ◌≤◌, ◌⊎◌}
use Rattle.lq_base.specs.declared.dialect.Dialect.{Dialect}
use Rattle.lq_base.specs.declared.dialect.Dialect.TheVariants.{Postgresql}
use Rattle.lq_base.specs.declared.tracking.Lock.{Lock}
use Rattle.lq_drill.specs.Player.{MakesNone as CallsNone, Moves, Standing}
use Rattle.lq_drill.specs.declared.fault.DrillFault.{DrillFault}
use Rattle.lq_drill.specs.declared.fault.DrillFault.TheVariants as drill
use Rattle.lq_hand.specs.Way.{no_progress, Way}
use Rattle.lq_hand.specs.Hand.{AreTurns, calls_left, place_of}
use Rattle.lq_hand.specs.declared.hand.Hand.{Hand}
use Rattle.lq_hand.specs.declared.hand.Phase.{Phase}
use Rattle.lq_hand.specs.declared.hand.Phase.TheVariants as phase
use Rattle.lq_model.specs.declared.caller.Room.TheVariants.{Ordinary}
use Rattle.lq_hand.specs.declared.progress.Progress.{Progress}
use Rattle.lq_model.specs.declared.fault.StoreFault.{StoreFault}
use Rattle.lq_playing.proofs.Answering.{answered, failed_so, goes_on, lets_be}
use Rattle.lq_playing.proofs.Told.{err_is, some_none, the_disk, whole_disk}
use Rattle.lq_playing.proofs.Failing.{stops_last, stops_still}
use Rattle.lq_playing.proofs.FirstFaults.{stops_begun, stops_once}
use Rattle.lq_playing.proofs.Firsts.{moves_begun, moves_once, moves_told}
use Rattle.lq_playing.proofs.Laters.{moves_hindered, moves_last, moves_on, moves_stayed, not_busy}
use Rattle.lq_playing.proofs.Safely.{safe_begun, safe_once, safe_told}
use Rattle.lq_playing.proofs.SafelyLater.{safe_ended, safe_going}
use Rattle.lq_playing.proofs.SafelyLater.{met_before as had_met}
use Rattle.lq_playing.specs.Answers.{Answers, AnswersAs, FailsAs, failure_of, fault_of, is_disk_answer, is_disk_fault, is_failed_end, is_failure, is_told_end, refusal_in, tells_locked, as_busy, as_failed, as_locked, came}
use Rattle.lq_playing.specs.Checked.{IsInHand, IsLetIn, Work, Begins, CallsOnce, Judged}
use Rattle.lq_playing.specs.Under.{Hinders, IsFree, IsPlain, IsUnder}
use Rattle.lq_resting.proofs.Asked.{asks_is}
use Rattle.lq_resting.specs.Asking.{asks_open, asks_open_at}
use Rattle.lq_resting.specs.Resting.{Stays}
use Rattle.lq_playing.specs.Playing.{IsFresh, IsGoing, IsReadyAs, Took, opens_as, stands}
use Rattle.lq_playing.specs.Resting.{RestsAs}
use Rattle.lq_playing.specs.declared.came.Came.{Came}
use Rattle.lq_playing.specs.declared.came.Report.{Report}
use Rattle.lq_playing.specs.declared.checks.OneCall.{OneCall}
use Rattle.lq_playing.specs.declared.checks.Verdict.TheVariants as verdict
use Rattle.lq_playing.specs.declared.playing.Playing.{Playing}
use Rattle.lq_run.proofs.Beside.{set_inside, stays}
use Rattle.lq_run.specs.Beside.{Asks, Beside, IsSet, StopsAs, is_disk_end}
use Rattle.lq_run.specs.Commands.{IsNew, both_on}
use Rattle.lq_run.specs.Crashing.{CrashesFor, CrashesOpening, CrashesStep}
use Rattle.lq_run.specs.Ends.{disk_failed}
use Rattle.lq_run.specs.Stands.{IsHeld}
use Rattle.lq_run.specs.Steps.{Steps, is_over, standing}
use Rattle.lq_run.specs.declared.runner.End.{End}
use Rattle.lq_run.specs.declared.runner.End.TheVariants as end
use Rattle.lq_run.specs.declared.runner.Runner.{Runner}
use Rattle.lq_run.specs.declared.runner.Step.TheVariants as step
use Rattle.lq_store.specs.Journal.{Crashes, State, is_open}
use Rattle.lq_track.specs.Database.{Database}
use Rattle.lq_turns.specs.Schedule.{StandsFor}
use Rattle.lq_turns.specs.Rest.{Turns, rest}
use Rattle.lq_turns.specs.Script.{opening}
use Rattle.lq_turns.specs.Set.{Meaning}
use Rattle.lq_turns.specs.declared.answer.Answer.{Answer}
use Rattle.lq_turns.specs.declared.call.Call.{Call}
use Rattle.lq_turns.specs.declared.call.Call.TheVariants.{Alone}
use Rattle.lq_turns.specs.declared.deed.Deed.TheVariants.{Locks}
use Rattle.lq_turns.specs.declared.stamp.Stamp.{Stamp}
use Rattle.lq_turns.specs.declared.stop.Refusal.{Refusal}

not_true : false ≡ true → ⊥
not_true h = Prim.cc

no_calls : {c : Call} {cs : List Call} → c ∷ cs ≡ [] → ⊥
no_calls h = Prim.cc

ok_err : {why : DrillFault} → (let r : Result (Unit {0}) DrillFault = Ok tt in r) ≡ Err why → ⊥
ok_err h = Prim.cc

-- only a fault of the disk is answered as one
pub answers_disk : (o : Result Answer DrillFault) (was now : Bool) (answer : Option Answer) (result : Result (Unit {0}) DrillFault) → Answers o was answer now result → result ≡ Err drill.Disk → o ≡ Err drill.Disk
answers_disk (Ok a) was now answer result its is = absurd (ok_err (sym its.2 ∙ is))
answers_disk (Err why) was now answer result its is = ap (λ w. Err w) (err_is (sym its.2 ∙ is))

-- what it owes is no fault of the disk
pub rests_disk : {X : Type 0} (stamp : Stamp) (met : Option StoreFault) (within : Bool) (x : State) (was answers : Option Answer) (faulted now : Bool) (result : Result (Unit {0}) DrillFault) → disk_failed met ≡ false → ((k : Dialect) → RestsAs k stamp met within x was faulted answers now result) → result ≡ Err drill.Disk → X
rests_disk stamp met within x was answers faulted now (Ok u) clean rests is = absurd (ok_err is)
rests_disk stamp met within x was answers faulted now (Err why) clean rests is =
    let it = rests Postgresql in
    absurd (not_true (sym clean ∙ ap disk_failed (it.1.0 ∙ ap (λ f. Some f) (the_disk it.0 (sym it.2 ∙ err_is is)))))

pub no_disk_answer : {X : Type 0} (a : Answer) → (let o : Result Answer DrillFault = Ok a in o) ≡ Err drill.Disk → X
no_disk_answer a is = Prim.cc

pub no_disk_lack : {X : Type 0} → (let o : Result Answer DrillFault = Err drill.OutOfMemory in o) ≡ Err drill.Disk → X
no_disk_lack is = Prim.cc

-- a fault is answered alone
failed_alone : (report : Report) (why : DrillFault) → came report (failure_of why) ≡ as_failed why
failed_alone report drill.Disk = refl
failed_alone report (drill.Full used next) = refl
failed_alone report drill.OutOfMemory = refl

-- what was met stays met
still_met : (was before now : Bool) → was ≡ before → (before ≡ true → now ≡ true) → (was || now) ≡ now
still_met true before now is stays = sym (stays (sym is))
still_met false before true is stays = refl
still_met false before false is stays = refl

-- with a fault a command has no end of its own
not_told : (was : Option StoreFault) (e : End) → StopsAs was (step.Ended e) → is_told_end e ≡ false
not_told was end.Done stops = absurd stops
not_told was (end.Refused refusal) stops = absurd stops
not_told was (end.Locked lock) stops = refl
not_told was end.Disk stops = refl
not_told was (end.Full used next) stops = refl
not_told was end.OutOfMemory stops = refl

met_now : (was now : Bool) → now ≡ true → (was || now) ≡ true
met_now true now is = refl
met_now false now is = is

module _ {T : Type 0} (reads : T → Dialect → Type 0) where
  pub fresh_by : (r : Runner T) (command : T) (d : Dialect) (stamp : Stamp) → (r.dialect ≡ d) × (r.stamp ≡ stamp) → r.source ≡ command → reads command d → stamp.reading ≤ 253402300799999 → IsPlain stamp → (r.fault ≡ None) × (r.refused ≡ None) → IsFresh reads false r
  fresh_by r command d stamp same source it moment plain unstopped = record {
    reads_it = subst (λ c. reads c r.dialect) (sym source) (subst (reads command) (sym same.0) it);
    moment = subst (λ (t : Stamp). t.reading ≤ 253402300799999) (sym same.1) moment;
    plain = subst (λ (t : Stamp). IsPlain t) (sym same.1) plain;
    unstopped = unstopped;
    met = sym (ap is_some unstopped.0);
  }

  pub going_as : (r : Runner T) (begun faulted : Bool) → begun ≡ true → IsReadyAs reads begun faulted r → IsGoing reads faulted r
  going_as r begun faulted is ready = subst (λ b. IsReadyAs reads b faulted r) is ready

  pub fresh_as : (r : Runner T) (begun faulted : Bool) → begun ≡ false → IsReadyAs reads begun faulted r → IsFresh reads faulted r
  fresh_as r begun faulted is ready = subst (λ b. IsReadyAs reads b faulted r) is ready

over_shut : (at : Phase) (calls : List Call) → is_over at ≡ true → asks_open_at at calls ≡ false
over_shut phase.Inside calls is = absurd (not_true is)
over_shut phase.GivingUp calls is = absurd (not_true is)
over_shut phase.Over calls is = refl

same_player : {T : Type 0} (q : Playing T) (r : Runner T) (begun faulted : Bool) (answer : Option Answer) → q.runner ≡ r → q.begun ≡ begun → q.faulted ≡ faulted → q.answer ≡ answer → q ≡ record { runner = r; begun = begun; faulted = faulted; answer = answer }
same_player q r begun faulted answer a b c e =
    ap (λ v. record q { runner = v }) a ∙ ap (λ v. record q { runner = r; begun = v }) b ∙ ap (λ v. record q { runner = r; begun = begun; faulted = v }) c ∙ ap (λ v. record q { runner = r; begun = begun; faulted = faulted; answer = v }) e

-- a job that makes a call on this database
calls_some : (job : Work) (database : Database) (call : Call) (calls : List Call) → IsLetIn job database → job.refuses database ≡ None → job.script database ≡ call ∷ calls → CallsNone job database → ⊥
calls_some job database call calls let_in passes script_is (inl refused) =
    some_none refused.0 (sym refused.1 ∙ ap (λ b. if b then Some (as_locked database.lock) else job.refuses database) let_in ∙ passes)
calls_some job database call calls let_in passes script_is (inr empty) = no_calls (sym script_is ∙ empty)

-- one that has no transaction open
shut_new : (begun : Bool) (hand : Hand) → begun ≡ false → opens_as begun hand ≡ false
shut_new begun hand is = ap (λ b. opens_as b hand) is

shut_at : (begun : Bool) (hand : Hand) → asks_open hand ≡ false → opens_as begun hand ≡ false
shut_at true hand is = is
shut_at false hand is = refl

hinders_shut : (d : Dialect) (stamp : Stamp) (session : ℕ) (within : Bool) (x : State) (found : Result Answer DrillFault) → Hinders d stamp session within x (Some found) → within ≡ false
hinders_shut d stamp session within x (Ok a) hinders = hinders.0
hinders_shut d stamp session within x (Err why) hinders = hinders.0

-- what a hand asks for is what its session has open
open_as : (begun : Bool) (hand : Hand) (b : Bool) → begun ≡ true → b ≡ asks_open hand → b ≡ opens_as begun hand
open_as begun hand b is asks = asks ∙ sym (ap (λ k. opens_as k hand) is)

shut_as : (begun : Bool) (hand : Hand) (b : Bool) → begun ≡ false → b ≡ false → b ≡ opens_as begun hand
shut_as begun hand b is shut = shut ∙ sym (ap (λ k. opens_as k hand) is)

module _ {Key Told T : Type 0} (m : Meaning Key) (left : T → Turns Key) (way : T → Dialect → Stamp → Told → Way) (reads : T → Dialect → Type 0) (job : T → Dialect → Stamp → Work) (ends : T → Option Refusal → Came) (reports : T → Report) (p : Playing T) (session : ℕ) (x : State) (c : Crashes) (unanswered : p.answer ≡ None)
  where
    abbrev before : Standing Came as_locked as_busy
    before = stands m left way reads job ends reports p

    abbrev after : Playing T → Standing Came as_locked as_busy
    after q = stands m left way reads job ends reports q

    abbrev d : Dialect
    d = p.runner.dialect

    abbrev stamp : Stamp
    stamp = p.runner.stamp

    none : before.answer ≡ None
    none = ap (option_map (came (reports p.runner.source))) unanswered

    none_then : (q : Playing T) → q.answer ≡ p.answer → (after q).answer ≡ None
    none_then q same = ap (option_map (came (reports q.runner.source))) (same ∙ unanswered)

    -- its answer with what it did
    came_of : (q : Playing T) (a : Answer) (report : Report) → reports q.runner.source ≡ report → q.answer ≡ Some a → (after q).answer ≡ Some (came report a)
    came_of q a report same is = ap (option_map (came (reports q.runner.source))) is ∙ ap (λ k. Some (came k a)) same

    came_ok : (q : Playing T) (a : Answer) (report : Report) (result : Result (Unit {0}) DrillFault) → reports q.runner.source ≡ report → Answers (Ok a) p.faulted q.answer q.faulted result → AnswersAs as_failed (Ok (came report a)) p.faulted (after q).answer q.faulted result
    came_ok q a report result same its = (came_of q a report same its.0, its.1, its.2)

    came_err : (q : Playing T) (why : DrillFault) (was : Bool) (result : Result (Unit {0}) DrillFault) → Answers (Err why) was q.answer q.faulted result → AnswersAs as_failed (Err why) was (after q).answer q.faulted result
    came_err q why was result its = (ap (option_map (came (reports q.runner.source))) its.0 ∙ ap (λ k. Some k) (failed_alone (reports q.runner.source) why), its.1, its.2)

    owns_by : (q : Playing T) → q.runner.stamp ≡ stamp → (lock : Lock) → IsHeld q.runner.stamp lock → IsHeld stamp lock
    owns_by q same lock held = subst (λ (t : Stamp). IsHeld t lock) same held

    answered_ready : (q : Playing T) (a : Answer) → q.answer ≡ Some a → q.answer ≡ None → IsReadyAs reads q.begun q.faulted q.runner
    answered_ready q a is unanswered = absurd (some_none a (sym is ∙ unanswered))

    -- what it is to answer is what its runner met
    owes_by : (q : Playing T) → q.runner.fault ≡ p.runner.fault → (why : DrillFault) → (after q).owes why → before.owes why
    owes_by q same why it = (it.0, sym same ∙ it.1, it.2)

    owed_before : (met : StoreFault) → p.runner.fault ≡ Some met → before.owes (fault_of met)
    owed_before met is = (met, is, refl)

    -- its first step

    module _ (fresh : p.begun ≡ false) (shut : is_open session x.begun ≡ false) (ready : IsFresh reads p.faulted p.runner) (live : x.live ≡ true) (s : T) where
      -- it met no fault before
      unmet : (now : Bool) → now ≡ p.faulted → now ≡ true → ⊥
      unmet now same bad = not_true (sym (ap is_some ready.unstopped.0) ∙ sym ready.met ∙ sym same ∙ bad)

      -- where its job makes no call it makes none
      pub idle_once : (call : OneCall) → Judged d m stamp way ends (job p.runner.source d stamp) reports (left s) s session x (verdict.OneCall call) → x.dialect ≡ d → (database : Database) → StandsFor x.dialect x.committed database → CallsNone (job p.runner.source d stamp) database → ⊥
      idle_once call judged same database stands none_made =
          let both = judged.3 same database (subst (λ k. StandsFor k x.committed database) same stands) in
          calls_some (job p.runner.source d stamp) database (Alone call.deeds call.room) [] both.0.1 both.1.passes both.1.script_is none_made

      pub idle_begun : (hand : Hand) → Judged d m stamp way ends (job p.runner.source d stamp) reports (left s) s session x (verdict.Turns hand) → x.dialect ≡ d → (database : Database) → StandsFor x.dialect x.committed database → CallsNone (job p.runner.source d stamp) database → ⊥
      idle_begun hand judged same database stands none_made =
          let both = judged.1 same database (subst (λ k. StandsFor k x.committed database) same stands) in
          calls_some (job p.runner.source d stamp) database (Alone (map Locks (opening stamp database)) Ordinary) (rest d m stamp (place_of hand (left s)) (both_on database)) both.0.1 both.1.passes both.1.script_is none_made

      -- the player after its checks
      module _ (q : Playing T) (result : Result (Unit {0}) DrillFault) (runner_is : q.runner ≡ record (p.runner) { source = s }) (begun_is : q.begun ≡ p.begun) where
        same_dialect : q.runner.dialect ≡ d
        same_dialect = ap (λ (r : Runner T). r.dialect) runner_is

        same_stamp : q.runner.stamp ≡ stamp
        same_stamp = ap (λ (r : Runner T). r.stamp) runner_is

        same_report : reports q.runner.source ≡ reports s
        same_report = ap (λ (r : Runner T). reports r.source) runner_is

        same_fault : q.runner.fault ≡ p.runner.fault
        same_fault = ap (λ (r : Runner T). r.fault) runner_is

        pub took_told : (a : Answer) → Answers (Ok a) p.faulted q.answer q.faulted result → Judged d m stamp way ends (job p.runner.source d stamp) reports (left s) s session x (verdict.Answer a) → Took session before (after q) x x c c result
        took_told a its judged =
            answered session before (after q) x x c c result (reports s) a (came_ok q a (reports s) result same_report its) judged.0 live same_dialect (λ lives. shut_as q.begun q.runner.hand (is_open session x.begun) (begun_is ∙ fresh) shut) (shut_new q.begun q.runner.hand (begun_is ∙ fresh)) (lets_be session false x x (stays session x live))
            (owns_by q same_stamp) (answered_ready q a its.0) (λ bad. absurd (unmet q.faulted its.1 bad)) (moves_told session before (after q) x none fresh shut (came (reports s) a) (came_of q a (reports s) same_report its.0) (owes_by q same_fault) judged.1) (safe_told session before (after q) x c)

        pub took_lack : Answers (Err drill.OutOfMemory) p.faulted q.answer q.faulted result → Took session before (after q) x x c c result
        took_lack its =
            failed_so session before (after q) x x c c result drill.OutOfMemory (came_err q drill.OutOfMemory p.faulted result its) same_dialect (λ lives. shut_as q.begun q.runner.hand (is_open session x.begun) (begun_is ∙ fresh) shut) (shut_new q.begun q.runner.hand (begun_is ∙ fresh)) (lets_be session false x x (stays session x live))
            (owns_by q same_stamp) (answered_ready q (failure_of drill.OutOfMemory) its.0) (stops_still session before (after q) x drill.OutOfMemory (λ jobs origin v dialect shows plays. refl)) (safe_told session before (after q) x c)

        pub took_once : (y : State) (now : Crashes) (call : OneCall) (done : Result Answer DrillFault) → Answers done p.faulted q.answer q.faulted result → Judged d m stamp way ends (job p.runner.source d stamp) reports (left s) s session x (verdict.OneCall call)
            → CallsOnce d session call x done y → Beside session (is_disk_answer done) x y → CrashesFor d session (Alone call.deeds call.room) x c now → (y.live ≡ true → is_open session y.begun ≡ false) → Took session before (after q) x y c now result
        took_once y now call (Ok a) its judged calls beside crash shuts =
            answered session before (after q) x y c now result (reports s) a (came_ok q a (reports s) result same_report its) (ap is_failure calls.0 ∙ judged.0) beside.live same_dialect (λ lives. shut_as q.begun q.runner.hand (is_open session y.begun) (begun_is ∙ fresh) (shuts lives)) (shut_new q.begun q.runner.hand (begun_is ∙ fresh)) (lets_be session false x y beside)
            (owns_by q same_stamp) (answered_ready q a its.0) (λ bad. absurd (unmet q.faulted its.1 bad)) (moves_once session before (after q) x none fresh shut y (reports s) call (came_of q a (reports s) same_report its.0 ∙ ap (λ b. Some (came (reports s) b)) calls.0) (owes_by q same_fault) shuts judged.3 calls.1)
            (safe_once session before (after q) x none fresh shut c now (reports s) call judged.3 crash)
        took_once y now call (Err why) its judged calls beside crash shuts =
            failed_so session before (after q) x y c now result why (came_err q why p.faulted result its) same_dialect (λ lives. shut_as q.begun q.runner.hand (is_open session y.begun) (begun_is ∙ fresh) (shuts lives)) (shut_new q.begun q.runner.hand (begun_is ∙ fresh)) (lets_be session (is_disk_fault why) x y beside)
            (owns_by q same_stamp) (answered_ready q (failure_of why) its.0) (stops_once session before (after q) x none fresh shut y why (reports s) call judged.3 calls) (safe_once session before (after q) x none fresh shut c now (reports s) call judged.3 crash)

      -- it takes the lock
      module _ (hand : Hand) (started : Progress) (is_started : started ≡ no_progress) (judged : Judged d m stamp way ends (job p.runner.source d stamp) reports (left s) s session x (verdict.Turns hand)) (reads_it : reads s d) where
        abbrev begun_runner : Runner T
        begun_runner = record (p.runner) { source = s; hand = hand; progress = started }

        in_hand : IsInHand d stamp hand
        in_hand = judged.0

        new : IsNew d m stamp (standing left way begun_runner)
        new = record { inside = in_hand.inside; turn = in_hand.turn; holds = in_hand.holds; fault = ready.unstopped.0; refused = ready.unstopped.1 }

        shut_hand : false ≡ asks_open hand
        shut_hand = asks_is d hand.phase (calls_left hand) false (set_inside d hand.phase (calls_left hand) false in_hand.inside in_hand.turn)

        going : IsGoing reads p.faulted begun_runner
        going = record {
          reads_it = reads_it;
          moment = ready.moment;
          plain = ready.plain;
          goes = ap is_over in_hand.inside;
          asks = set_inside d hand.phase (calls_left hand) (asks_open hand) in_hand.inside (subst (λ o. AreTurns d o (calls_left hand)) shut_hand in_hand.turn);
          disk = ap disk_failed ready.unstopped.0;
          met = ready.met;
        }

        pub took_begun : (q : Playing T) (y : State) (now : Crashes) (result : Result (Unit {0}) DrillFault) → q.runner ≡ begun_runner → Begins d stamp session x y p.begun p.answer p.faulted q.begun q.answer q.faulted result → Beside session (is_disk_answer result) x y
            → CrashesOpening d stamp session x c now → (y.live ≡ true → is_open session y.begun ≡ false) → Took session before (after q) x y c now result
        took_begun q y now (Ok u) runner_is begins beside crash shuts =
            goes_on session before (after q) x y c now (Ok u) refl (none_then q begins.2) beside.live (ap (λ (r : Runner T). r.dialect) runner_is)
            (λ lives. open_as q.begun q.runner.hand (is_open session y.begun) begins.1 (shuts lives ∙ shut_hand ∙ ap (λ (r : Runner T). asks_open r.hand) (sym runner_is))) (lets_be session false x y beside)
            (owns_by q (ap (λ (r : Runner T). r.stamp) runner_is)) (λ unanswered. subst (λ b. IsReadyAs reads b q.faulted q.runner) (sym begins.1) (subst (λ b. IsGoing reads b q.runner) (sym begins.3) (subst (IsGoing reads p.faulted) (sym runner_is) going))) (λ was. begins.3 ∙ was)
            (moves_begun m stamp way ends s session before (after q) x y (standing left way begun_runner) none fresh shut (none_then q begins.2) begins.1
            (λ h is. subst (λ (r : Runner T). IsUnder r.dialect m r.stamp (standing left way r) way ends h) (sym runner_is) is) (λ lock held. subst (λ (r : Runner T). IsHeld r.stamp lock) (sym runner_is) held) (owes_by q (ap (λ (r : Runner T). r.fault) runner_is)) new is_started refl judged.1 begins.0)
            (safe_begun session before (after q) x none fresh shut c now m stamp way ends (left s) s hand judged.1 crash)
        took_begun q y now (Err why) runner_is begins beside crash shuts =
            failed_so session before (after q) x y c now (Err why) why (came_err q why p.faulted (Err why) (begins.1, begins.2, refl)) (ap (λ (r : Runner T). r.dialect) runner_is) (λ lives. shut_as q.begun q.runner.hand (is_open session y.begun) (begins.0 ∙ fresh) (shuts lives)) (shut_new q.begun q.runner.hand (begins.0 ∙ fresh))
            (lets_be session (is_disk_fault why) x y beside) (owns_by q (ap (λ (r : Runner T). r.stamp) runner_is)) (answered_ready q (failure_of why) begins.1)
            (stops_begun session before (after q) x none fresh shut y why m stamp way ends (left s) s hand judged.1 begins.3) (safe_begun session before (after q) x none fresh shut c now m stamp way ends (left s) s hand judged.1 crash)

    -- a later step

    module _ (begun : p.begun ≡ true) (opened : is_open session x.begun ≡ asks_open p.runner.hand) (live : x.live ≡ true) (was_met : p.faulted ≡ is_some p.runner.fault) (plain : IsPlain stamp) where
      met_before : (now b : Bool) → now ≡ p.faulted → now ≡ b → is_some p.runner.fault ≡ b
      met_before now b same is = sym was_met ∙ sym same ∙ is

      -- what hinders it is its answer; or there was no memory for that, or it answers the fault that it met before
      hindered_so : (found : Result Answer DrillFault) (r : Result Answer DrillFault) → found ≡ r → Hinders d stamp session (asks_open p.runner.hand) x (Some found) → Hinders d stamp session (asks_open p.runner.hand) x (Some r)
      hindered_so found r same hinders = subst (λ (o : Result Answer DrillFault). Hinders d stamp session (asks_open p.runner.hand) x (Some o)) same hinders

      pub took_hindered : (q : Playing T) (result : Result (Unit {0}) DrillFault) (found told : Result Answer DrillFault) → q.runner ≡ p.runner → q.begun ≡ p.begun → Answers told p.faulted q.answer q.faulted result → Hinders d stamp session (asks_open p.runner.hand) x (Some found)
          → IfOk told (λ a. found ≡ Ok a) → (is_some p.runner.fault ≡ true → IfOk told (λ a. tells_locked a ≡ true)) → IfErr told (λ why. (found ≡ Err why) ⊎ ((a : Answer) × (found ≡ Ok a) × (tells_locked a ≡ false))) → Took session before (after q) x x c c result
      took_hindered q result found (Ok a) runner_is begun_is its hinders kept locked fails =
          let it : Hinders d stamp session (asks_open p.runner.hand) x (Some (Ok a)) = hindered_so found (Ok a) kept hinders in
          answered session before (after q) x x c c result (reports q.runner.source) a (came_ok q a (reports q.runner.source) result refl its) it.1 live (ap (λ (r : Runner T). r.dialect) runner_is) (λ lives. open_as q.begun q.runner.hand (is_open session x.begun) (begun_is ∙ begun) (opened ∙ ap (λ (r : Runner T). asks_open r.hand) (sym runner_is)))
          (shut_at q.begun q.runner.hand (ap (λ (r : Runner T). asks_open r.hand) runner_is ∙ hinders_shut d stamp session (asks_open p.runner.hand) x found hinders)) (lets_be session false x x (stays session x live)) (owns_by q (ap (λ (r : Runner T). r.stamp) runner_is)) (answered_ready q a its.0) (λ bad. locked (met_before q.faulted true its.1 bad))
          (moves_hindered m stamp way ends session before (after q) x (standing left way p.runner) none begun (λ h under. under) (λ lock held. held) plain (reports q.runner.source) a (came_of q a (reports q.runner.source) refl its.0) it.2 (owes_by q (ap (λ (r : Runner T). r.fault) runner_is)))
          (safe_told session before (after q) x c)
      took_hindered q result found (Err why) runner_is begun_is its hinders kept locked fails =
          failed_so session before (after q) x x c c result why (came_err q why p.faulted result its) (ap (λ (r : Runner T). r.dialect) runner_is) (λ lives. open_as q.begun q.runner.hand (is_open session x.begun) (begun_is ∙ begun) (opened ∙ ap (λ (r : Runner T). asks_open r.hand) (sym runner_is)))
          (shut_at q.begun q.runner.hand (ap (λ (r : Runner T). asks_open r.hand) runner_is ∙ hinders_shut d stamp session (asks_open p.runner.hand) x found hinders)) (lets_be session false x x (stays session x live)) (owns_by q (ap (λ (r : Runner T). r.stamp) runner_is)) (answered_ready q (failure_of why) its.0) (stops_still session before (after q) x why (λ jobs origin v dialect shows plays. elim fails [
            | inl is ↦ let lacks : Hinders d stamp session (asks_open p.runner.hand) x (Some (Err why)) = hindered_so found (Err why) is hinders in lacks.1
            | inr own ↦
                let it : Hinders d stamp session (asks_open p.runner.hand) x (Some (Ok own.0)) = hindered_so found (Ok own.0) own.1 hinders in
                absurd (not_busy m stamp way ends session before (after q) x (standing left way p.runner) none begun (λ h under. under) (λ lock held. held) plain own.0 own.2 it.2 jobs origin v dialect shows plays)
          ])) (safe_told session before (after q) x c)

      -- a command that found only memory wanting told no disk fault
      pub hindered_disk : (found : Result Answer DrillFault) → Hinders d stamp session (asks_open p.runner.hand) x (Some found) → found ≡ Err drill.Disk → ⊥
      hindered_disk (Ok a) hinders is = Prim.cc
      hindered_disk (Err why) hinders is = memory (sym hinders.1 ∙ err_is is) where
        memory : drill.OutOfMemory ≡ drill.Disk → ⊥
        memory h = Prim.cc

      module _ (free : IsFree d stamp session (asks_open p.runner.hand) x) (r : Runner T) (same : (r.dialect ≡ d) × (r.stamp ≡ stamp)) (y : State) (set : IsSet d session r.hand x y) (now : Crashes) (crash : CrashesStep d m stamp session (standing left way p.runner) r.fault x c now) (stays_met : is_some p.runner.fault ≡ true → is_some r.fault ≡ true) where
        asks_now : y.live ≡ true → is_open session y.begun ≡ asks_open r.hand
        asks_now lives = asks_is d r.hand.phase (calls_left r.hand) (is_open session y.begun) (set free.alone lives)

        went_on : (f : Bool) → f ≡ (p.faulted || is_some r.fault) → stamp.reading ≤ 253402300799999 → reads r.source r.dialect → is_over r.hand.phase ≡ false → disk_failed r.fault ≡ false → Beside session false x y
            → ((k : Dialect) → Stays k r.stamp r.fault (asks_open r.hand) y None) → Steps d m stamp session (standing left way p.runner) (standing left way r) x step.Going y → Took session before (after (record p { runner = r; faulted = f })) x y c now (Ok tt)
        went_on f faulted_is moment reads_it more disk beside stays steps =
            let q : Playing T = record p { runner = r; faulted = f } in
            let none_on : (after q).answer ≡ None = none_then q refl in
            let met : is_some r.fault ≡ true → f ≡ true = λ is. faulted_is ∙ met_now p.faulted (is_some r.fault) is in
            goes_on session before (after q) x y c now (Ok tt) refl none_on beside.live same.0 (λ lives. open_as p.begun r.hand (is_open session y.begun) begun (asks_now lives)) (lets_be session false x y beside) (owns_by q same.1)
            (λ unanswered. subst (λ b. IsReadyAs reads b f r) (sym begun) (record {
              reads_it = reads_it;
              moment = subst (λ (t : Stamp). t.reading ≤ 253402300799999) (sym same.1) moment;
              plain = subst (λ (t : Stamp). IsPlain t) (sym same.1) plain;
              goes = more;
              asks = subst (λ k. Asks k r.hand.phase (calls_left r.hand) (asks_open r.hand)) (sym same.0) (subst (λ o. Asks d r.hand.phase (calls_left r.hand) o) (asks_now beside.live) (set free.alone beside.live));
              disk = disk;
              met = faulted_is ∙ still_met p.faulted (is_some p.runner.fault) (is_some r.fault) was_met stays_met;
            }))
            (λ was. faulted_is ∙ ap (λ b. b || is_some r.fault) was)
            (moves_on m stamp way ends session before (after q) x (standing left way p.runner) none begun (λ h is. is) (λ lock held. held) plain y (asks_open p.runner.hand) opened free (standing left way r) none_on begun
            (λ h is. subst (λ k. IsUnder k m r.stamp (standing left way r) way ends h) (sym same.0) (subst (λ t. IsUnder d m t (standing left way r) way ends h) (sym same.1) is)) (λ lock held. subst (λ (t : Stamp). IsHeld t lock) (sym same.1) held)
            met (λ why it. it) owed_before more disk (λ g some shut. elim (subst (λ (t : Stamp). Stays d t r.fault (asks_open r.hand) y None) same.1 (stays d)) [
              | inl healthy ↦ absurd (some_none g (sym some ∙ healthy))
              | inr other ↦ elim other [ inl within ↦ absurd (not_true (sym shut ∙ asks_now beside.live ∙ within)) | inr bare ↦ bare ]
            ]) steps)
            (safe_going m stamp way ends session before (after q) x (standing left way p.runner) none begun (λ h is. is) (λ lock held. held) plain (asks_open p.runner.hand) opened free r.fault c now met crash)

        -- another call is to come, or the lock has a mark, and it answers the fault that it met
        pub took_going : (q : Playing T) (result : Result (Unit {0}) DrillFault) (f : Bool) → f ≡ (p.faulted || is_some r.fault) → q.runner ≡ r → q.begun ≡ p.begun → ((k : Dialect) → RestsAs k r.stamp r.fault (asks_open r.hand) y p.answer f q.answer q.faulted result)
            → stamp.reading ≤ 253402300799999 → reads r.source r.dialect → is_over r.hand.phase ≡ false → disk_failed r.fault ≡ false → Beside session false x y
            → Steps d m stamp session (standing left way p.runner) (standing left way r) x step.Going y → Took session before (after q) x y c now result
        took_going q (Ok u) f faulted_is runner_is begun_is rests moment reads_it more disk beside steps =
            subst (λ v. Took session before (after v) x y c now (Ok u)) (sym (same_player q r p.begun f p.answer runner_is begun_is (rests d).2 (rests d).1)) (went_on f faulted_is moment reads_it more disk beside (λ k. (rests k).0) steps)
        took_going q (Err why) f faulted_is runner_is begun_is rests moment reads_it more disk beside steps =
            let it = rests d in
            let stays : Stays d stamp r.fault (asks_open r.hand) y (Some it.0) = subst (λ (t : Stamp). Stays d t r.fault (asks_open r.hand) y (Some it.0)) same.1 it.1 in
            failed_so session before (after q) x y c now (Err why) why (came_err q why f (Err why) it.3) (ap (λ (v : Runner T). v.dialect) runner_is ∙ same.0)
            (λ lives. open_as q.begun q.runner.hand (is_open session y.begun) (begun_is ∙ begun) (asks_now lives ∙ ap (λ (v : Runner T). asks_open v.hand) (sym runner_is))) (shut_at q.begun q.runner.hand (ap (λ (v : Runner T). asks_open v.hand) runner_is ∙ stays.1)) (lets_be session false x y beside)
            (owns_by q (ap (λ (v : Runner T). v.stamp) runner_is ∙ same.1)) (answered_ready q (failure_of why) it.3.0)
            (subst (λ w. Moves as_failed session before (after q) x (Err w) y) (sym it.2)
            (moves_stayed m stamp way ends session before (after q) x (standing left way p.runner) none begun (λ h is. is) (λ lock held. held) plain y (asks_open p.runner.hand) opened free (standing left way r) it.0 stays.0 it.3.1 stays.2 (asks_now beside.live ∙ stays.1) more owed_before steps))
            (safe_going m stamp way ends session before (after q) x (standing left way p.runner) none begun (λ h is. is) (λ lock held. held) plain (asks_open p.runner.hand) opened free r.fault c now (λ is. it.3.1) crash)

        pub took_ended : (q : Playing T) (result : Result (Unit {0}) DrillFault) (e : End) (found : Result Answer DrillFault) → q.runner ≡ r → q.begun ≡ p.begun → Answers found p.faulted q.answer q.faulted result
            → IfOk found (λ a. is_failure a ≡ false) → IfOk found (λ a. is_failed_end e ≡ false) → IfOk found (λ a. is_told_end e ≡ true → came (reports r.source) a ≡ ends r.source (refusal_in e)) → IfOk found (λ a. is_told_end e ≡ false → tells_locked a ≡ true)
            → IfErr found (FailsAs e) → (is_some r.fault ≡ true → StopsAs p.runner.fault (step.Ended e)) → is_over r.hand.phase ≡ true → Beside session (is_disk_end e) x y → Steps d m stamp session (standing left way p.runner) (standing left way r) x (step.Ended e) y → Took session before (after q) x y c now result
        took_ended q result e (Ok a) runner_is begun_is its own whole tells locked fails stops over beside steps =
            let same_reports : reports q.runner.source ≡ reports r.source = ap (λ (v : Runner T). reports v.source) runner_is in
            let alive : y.live ≡ true = (subst (λ b. Beside session b x y) (whole_disk e whole) beside).live in
            answered session before (after q) x y c now result (reports r.source) a (came_ok q a (reports r.source) result same_reports its) own alive (ap (λ (v : Runner T). v.dialect) runner_is ∙ same.0)
            (λ lives. open_as q.begun q.runner.hand (is_open session y.begun) (begun_is ∙ begun) (asks_now lives ∙ ap (λ (v : Runner T). asks_open v.hand) (sym runner_is))) (shut_at q.begun q.runner.hand (ap (λ (v : Runner T). asks_open v.hand) runner_is ∙ over_shut r.hand.phase (calls_left r.hand) over)) (lets_be session (is_disk_end e) x y beside)
            (owns_by q (ap (λ (v : Runner T). v.stamp) runner_is ∙ same.1)) (answered_ready q a its.0) (λ bad. locked (not_told p.runner.fault e (stops (stays_met (met_before q.faulted true its.1 bad)))))
            (moves_last m stamp way ends session before (after q) x (standing left way p.runner) none begun (λ h is. is) (λ lock held. held) plain y (asks_open p.runner.hand) opened free (standing left way r) (came (reports r.source) a) e (came_of q a (reports r.source) same_reports its.0) whole r.source tells (λ k told it. it) stops (λ why it. (it.0, sym (ap (λ (v : Runner T). v.fault) runner_is) ∙ it.1, it.2)) steps)
            (safe_ended m stamp way ends session before (after q) x (standing left way p.runner) none begun (λ h is. is) (λ lock held. held) plain (asks_open p.runner.hand) opened free r.fault c now (λ is. its.1 ∙ was_met ∙ had_met p.runner.fault r.fault e whole stops is) crash)
        took_ended q result e (Err why) runner_is begun_is its own whole tells locked fails stops over beside steps =
            failed_so session before (after q) x y c now result why (came_err q why p.faulted result its) (ap (λ (v : Runner T). v.dialect) runner_is ∙ same.0)
            (λ lives. open_as q.begun q.runner.hand (is_open session y.begun) (begun_is ∙ begun) (asks_now lives ∙ ap (λ (v : Runner T). asks_open v.hand) (sym runner_is))) (shut_at q.begun q.runner.hand (ap (λ (v : Runner T). asks_open v.hand) runner_is ∙ over_shut r.hand.phase (calls_left r.hand) over)) (lets_be session (is_disk_end e) x y beside)
            (owns_by q (ap (λ (v : Runner T). v.stamp) runner_is ∙ same.1)) (answered_ready q (failure_of why) its.0)
            (stops_last m stamp way ends session before (after q) x (standing left way p.runner) none begun (λ h is. is) (λ lock held. held) plain y (asks_open p.runner.hand) opened free (standing left way r) e why fails its.1 owed_before (λ lives. asks_now lives ∙ over_shut r.hand.phase (calls_left r.hand) over) steps)
            (safe_ended m stamp way ends session before (after q) x (standing left way p.runner) none begun (λ h is. is) (λ lock held. held) plain (asks_open p.runner.hand) opened free r.fault c now (λ is. its.1) crash)
