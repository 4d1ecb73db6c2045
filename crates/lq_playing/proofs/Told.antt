-- What the looks at a store tell.
use Rattle.std.proofs.Common.{ap, inl, inr, subst, sym, ◌∙◌}
use Rattle.std.specs.Option.{option_map}
use Rattle.std.specs.Prelude.{Bool, Err, IfErr, IfOk, IfSome, List, None, Ok, Option, Result, Some, cond, false, is_some, refl, true, ℕ, ◌&&◌, ◌≡◌, ◌⊎◌}
use Rattle.lq_base.specs.declared.dialect.Dialect.{Dialect}
use Rattle.lq_base.specs.declared.tracking.Lock.{Lock}
use Rattle.lq_drill.specs.declared.fault.DrillFault.{DrillFault}
use Rattle.lq_drill.specs.declared.fault.DrillFault.TheVariants as drill
use Rattle.lq_hand.specs.Hand.{IsReady, calls_left, hand_place, place_of}
use Rattle.lq_hand.specs.Way.{Way}
use Rattle.lq_hand.specs.declared.hand.Hand.{Hand}
use Rattle.lq_hand.specs.declared.hand.Phase.{Phase}
use Rattle.lq_hand.specs.declared.hand.Phase.TheVariants as phase
use Rattle.lq_model.specs.Catalogue.{Catalogue}
use Rattle.lq_model.specs.declared.fault.StoreFault.{StoreFault}
use Rattle.lq_model.specs.declared.fault.StoreFault.TheVariants as fault
use Rattle.lq_playing.specs.Answers.{fault_of, is_disk_fault, is_failed_end, is_failure, tells_locked, as_locked, came}
use Rattle.lq_playing.specs.Checked.{Checked, Work, AnswersBeside, AnswersFirst, CallsOnce, Judged, TellsBusy, TellsHeld}
use Rattle.lq_playing.specs.Under.{Hinders, IsFree, TellsBusy as IsTold, TellsLost, TellsOpen}
use Rattle.lq_playing.specs.declared.came.Came.{Came}
use Rattle.lq_playing.specs.declared.came.Report.{Report}
use Rattle.lq_playing.specs.declared.checks.OneCall.{OneCall}
use Rattle.lq_playing.specs.declared.checks.Verdict.{Verdict}
use Rattle.lq_playing.specs.declared.checks.Verdict.TheVariants as verdict
use Rattle.lq_resting.specs.Asking.{asks_open}
use Rattle.lq_run.proofs.Beside.{own_alone}
use Rattle.lq_run.proofs.Losing.{told_at}
use Rattle.lq_run.specs.Beside.{Asks, Beside, is_disk_end}
use Rattle.lq_run.specs.Crashing.{CrashesFor}
use Rattle.lq_run.specs.Does.{AloneFor}
use Rattle.lq_run.specs.Ends.{disk_failed}
use Rattle.lq_run.specs.Stands.{Holds, IsHeld, Stands}
use Rattle.lq_run.specs.Steps.{is_disk}
use Rattle.lq_run.specs.declared.holding.Holding.TheVariants as holding
use Rattle.lq_run.specs.declared.runner.End.{End}
use Rattle.lq_run.specs.declared.runner.End.TheVariants as end
use Rattle.lq_store.specs.Calls.{IsBusy}
use Rattle.lq_store.specs.Journal.{Crashes, State, Transaction, is_open, other, other_in, seen, seen_in}
use Rattle.lq_track.specs.Database.{Database, lock_of}
use Rattle.lq_turns.specs.Schedule.{StandsFor}
use Rattle.lq_turns.specs.Rest.{Turns}
use Rattle.lq_turns.specs.Session.{called}
use Rattle.lq_turns.specs.Set.{Meaning}
use Rattle.lq_turns.specs.declared.answer.Answer.{Answer}
use Rattle.lq_turns.specs.declared.answer.Answer.TheVariants.{Busy, Locked}
use Rattle.lq_turns.specs.declared.call.Call.TheVariants.{Alone}
use Rattle.lq_turns.specs.declared.deed.Deed.{Deed}
use Rattle.lq_turns.specs.declared.stamp.Stamp.{Stamp}
use Rattle.lq_turns.specs.declared.stop.Refusal.{Refusal}

not_true : false ≡ true → ⊥
not_true h = Prim.cc

pub some_none : {A : Type 0} (a : A) → Some a ≡ None → ⊥
some_none a h = Prim.cc

-- no session has a transaction open
pub none_begun : (n : ℕ) (t : Option Transaction) → is_open n t ≡ false → other_in n t ≡ None → t ≡ None
none_begun n None shut none = refl
none_begun n (Some t) shut none = absurd (some_none t.session (sym (ap (λ b. cond b None (Some t.session)) shut) ∙ none))

-- faults

fault_disk : (why : StoreFault) → is_disk_fault (fault_of why) ≡ is_disk why
fault_disk fault.Disk = refl
fault_disk (fault.Full used next) = refl
fault_disk fault.OutOfMemory = refl
fault_disk (fault.Busy n) = refl
fault_disk fault.NotSql = refl
fault_disk (fault.Refused reason) = refl

pub the_disk : (why : StoreFault) → fault_of why ≡ drill.Disk → why ≡ fault.Disk
the_disk fault.Disk is = refl
the_disk (fault.Full used next) is = Prim.cc
the_disk fault.OutOfMemory is = Prim.cc
the_disk (fault.Busy n) is = Prim.cc
the_disk fault.NotSql is = Prim.cc
the_disk (fault.Refused reason) is = Prim.cc

pub err_is : {A : Type 0} {why other : DrillFault} → (let r : Result A DrillFault = Err why in r) ≡ Err other → why ≡ other
err_is h = Prim.cc

pub fault_beside : (session : ℕ) (x y : State) (why : StoreFault) (it : DrillFault) → it ≡ fault_of why → Beside session (is_disk why) x y → Beside session (is_disk_fault it) x y
fault_beside session x y why it is beside = subst (λ b. Beside session b x y) (sym (ap is_disk_fault is ∙ fault_disk why)) beside

pub no_fact : {X : Type 0} → false ≡ true → X
no_fact is = absurd (not_true is)

-- of a result

pub always : {A E : Type 0} (r : Result A E) (P : Type 0) → P → IfOk r (λ a. P)
always (Ok a) P p = p
always (Err e) P p = tt

pub ok_map : {A E : Type 0} (r : Result A E) (P Q : A → Type 0) → IfOk r P → ((a : A) → P a → Q a) → IfOk r Q
ok_map (Ok a) P Q p f = f a p
ok_map (Err e) P Q p f = tt

pub no_disk : {A X : Type 0} (r : Result A DrillFault) → IfErr r (λ why. why ≡ drill.OutOfMemory) → r ≡ Err drill.Disk → X
no_disk (Ok a) lacks is = Prim.cc
no_disk (Err why) lacks is = Prim.cc

-- an answer with what was done is there where the answer is

pub none_came : {A B : Type 0} (f : A → B) (o : Option A) → option_map f o ≡ None → o ≡ None
none_came f None is = refl
none_came f (Some a) is = absurd (some_none (f a) is)

pub some_came : {A B : Type 0} (f : A → B) (o : Option A) → is_some o ≡ is_some (option_map f o)
some_came f None = refl
some_came f (Some a) = refl

-- a first step

module _ {Key Told T : Type 0} (d : Dialect) (m : Meaning Key) (stamp : Stamp) (way : T → Dialect → Stamp → Told → Way) (ends : T → Option Refusal → Came) (job : Work) (reports : T → Report) (turns : Turns Key) (source : T) (session : ℕ) (x : State) (kept : Bool)
    (out : IfSome (lock_of x.dialect x.committed) (λ lock. kept ≡ (job.needs_lock && lock.locked))) where
  -- the lock keeps it out, or lets it in
  kept_at : (database : Database) → x.dialect ≡ d → StandsFor d x.committed database → kept ≡ (job.needs_lock && database.lock.locked)
  kept_at database is stands = told_at (λ lock. kept ≡ (job.needs_lock && lock.locked)) x.dialect d x.committed database out is stands

  pub kept_out : (lock : Lock) (v : Verdict) → kept ≡ true → IfSome (lock_of x.dialect x.committed) (λ it. lock ≡ it) → TellsHeld lock v → Judged d m stamp way ends job reports turns source session x v
  kept_out lock (verdict.Answer a) is there tells = (
    ap is_failure tells,
    λ same database stands. subst (λ b. AnswersFirst b (other session x) job (came (reports source) a) database) (sym is ∙ kept_at database same stands)
        (ap (came (reports source)) tells ∙ ap as_locked (told_at (λ it. lock ≡ it) x.dialect d x.committed database there same stands)),
  )
  kept_out lock verdict.Lack is there tells = tt
  kept_out lock (verdict.OneCall call) is there tells = absurd tells
  kept_out lock (verdict.Turns hand) is there tells = absurd tells

  module _ (is : kept ≡ false) where
    let_in : (database : Database) → x.dialect ≡ d → StandsFor d x.committed database → (job.needs_lock && database.lock.locked) ≡ false
    let_in database same stands = sym (kept_at database same stands) ∙ is

    first_as : (database : Database) (a : Came) (o : Option ℕ) → x.dialect ≡ d → StandsFor d x.committed database → other session x ≡ o → AnswersBeside o job a database → AnswersFirst (job.needs_lock && database.lock.locked) (other session x) job a database
    first_as database a o same stands other_is it = subst (λ b. AnswersFirst b (other session x) job a database) (sym (let_in database same stands)) (subst (λ p. AnswersBeside p job a database) (sym other_is) it)

    pub found_busy : (why : StoreFault) (v : Verdict) → IsBusy session x why → TellsBusy why v → Judged d m stamp way ends job reports turns source session x v
    found_busy (fault.Busy n) v busy tells = subst (Judged d m stamp way ends job reports turns source session x) (sym tells) (refl, λ same database stands. first_as database (came (reports source) (Busy n)) (Some n) same stands busy refl)
    found_busy fault.Disk v busy tells = absurd busy
    found_busy (fault.Full used next) v busy tells = absurd busy
    found_busy (fault.Refused reason) v busy tells = absurd busy
    found_busy fault.NotSql v busy tells = absurd busy
    found_busy fault.OutOfMemory v busy tells = absurd busy

    module _ (shut : is_open session x.begun ≡ false) (alone : other session x ≡ None) (looked : Catalogue) (looked_is : looked ≡ seen session x) where
      seen_is : looked ≡ x.committed
      seen_is = looked_is ∙ ap (λ t. seen_in session t x.committed) (none_begun session x.begun shut alone)

      stands_seen : (database : Database) → StandsFor d x.committed database → StandsFor d looked database
      stands_seen database stands = subst (λ c. StandsFor d c database) (sym seen_is) stands

      pub judged : (v : Verdict) → Checked d m stamp way ends job reports turns source looked v → Judged d m stamp way ends job reports turns source session x v
      judged (verdict.Answer a) checked = (checked.0, λ same database stands. first_as database (came (reports source) a) None same stands alone (checked.1 database (stands_seen database stands) (let_in database same stands)))
      judged (verdict.OneCall call) checked = (checked.0, checked.1, checked.2, λ same database stands. ((alone, let_in database same stands), checked.3 database (stands_seen database stands) (let_in database same stands)))
      judged (verdict.Turns hand) checked = (checked.0, λ same database stands. ((alone, let_in database same stands), checked.1 database (stands_seen database stands) (let_in database same stands)))
      judged verdict.Lack checked = tt

-- the one call of a command
pub once_done : (d : Dialect) (session : ℕ) (call : OneCall) (x y : State) (deeds : List Deed) (u : Unit {0}) → deeds ≡ call.deeds → AloneFor d session deeds call.room x (Ok u) y → CallsOnce d session call x (Ok call.answer) y
once_done d session call x y deeds u same alone = (
  refl,
  λ start s is stands fit. subst (λ k. Stands start session y (called k (Alone call.deeds call.room) s)) is ((subst (λ ds. AloneFor d session ds call.room x (Ok u) y) same alone) start s is stands fit).2,
)

pub once_failed : (d : Dialect) (session : ℕ) (call : OneCall) (x y : State) (deeds : List Deed) (met : StoreFault) (why : DrillFault) → why ≡ fault_of met → deeds ≡ call.deeds → AloneFor d session deeds call.room x (Err met) y → CallsOnce d session call x (Err why) y
once_failed d session call x y deeds met why is same alone = (met, sym is, subst (λ ds. AloneFor d session ds call.room x (Err met) y) same alone)

pub once_crashes : (d : Dialect) (session : ℕ) (call : OneCall) (x : State) (before now : Crashes) (deeds : List Deed) → deeds ≡ call.deeds → CrashesFor d session (Alone deeds call.room) x before now → CrashesFor d session (Alone call.deeds call.room) x before now
once_crashes d session call x before now deeds same crash = subst (λ ds. CrashesFor d session (Alone ds call.room) x before now) same crash

-- a later step

pub ready_now : {Key : Type 0} (d : Dialect) (hand : Hand) (turns : Turns Key) (opened : Bool) → opened ≡ asks_open hand → Asks d hand.phase (calls_left hand) (asks_open hand) → IsReady d opened (place_of hand turns)
ready_now d hand turns opened is asks = by hand.phase (subst (λ o. Asks d hand.phase (calls_left hand) o) (sym is) asks) where
  by : (at : Phase) → Asks d at (calls_left hand) opened → IsReady d opened (hand_place at (calls_left hand) hand.goes_on turns)
  by phase.Inside asks = asks
  by phase.GivingUp asks = asks
  by phase.Over asks = asks

held_map : (o : Option Lock) (P Q : Lock → Type 0) → IfSome o P → ((lock : Lock) → P lock → Q lock) → IfSome o Q
held_map None P Q p f = p
held_map (Some lock) P Q p f = f lock p

module _ (d : Dialect) (stamp : Stamp) (session : ℕ) (within : Bool) (x : State) where
  pub free_within : within ≡ true → is_open session x.begun ≡ within → IsFree d stamp session within x
  free_within is opened = record { alone = own_alone session x.begun (opened ∙ is); held = λ not_within. absurd (not_true (sym not_within ∙ is)) }

  pub lost_hinders : (r : Result Answer DrillFault) → within ≡ false → IfSome (lock_of x.dialect x.committed) (λ lock. Holds stamp lock holding.Lost) → IfSome (lock_of x.dialect x.committed) (λ lock. TellsLost lock r)
      → IfOk r (λ a. is_failure a ≡ false) → IfErr r (λ why. why ≡ drill.OutOfMemory) → Hinders d stamp session within x (Some r)
  lost_hinders (Ok a) is lost tells own lacks = (
    is,
    own,
    λ same database stands. inl (told_at (λ lock. Holds stamp lock holding.Lost) x.dialect d x.committed database lost same stands, told_at (λ lock. a ≡ Locked lock) x.dialect d x.committed database tells same stands),
  )
  lost_hinders (Err why) is lost tells own lacks = (is, lacks)

  held_hinders : (o : Option (Result Answer DrillFault)) → within ≡ false → IfSome (lock_of x.dialect x.committed) (IsHeld stamp) → IsTold session x o → Hinders d stamp session within x o
  held_hinders None is held told = record { alone = told; held = λ not_within same database stands. told_at (IsHeld stamp) x.dialect d x.committed database held same stands }
  held_hinders (Some (Ok a)) is held told = (is, ap is_failure told.2, λ same database stands. inr (told_at (IsHeld stamp) x.dialect d x.committed database held same stands, (told.0, told.1)))
  held_hinders (Some (Err why)) is held told = absurd told

  pub bare_hinders : (o : Option (Result Answer DrillFault)) → within ≡ false → IfSome (lock_of x.dialect x.committed) (λ lock. Holds stamp lock holding.Bare) → IsTold session x o → Hinders d stamp session within x o
  bare_hinders o is held told = held_hinders o is (held_map (lock_of x.dialect x.committed) (λ lock. Holds stamp lock holding.Bare) (IsHeld stamp) held (λ lock it. inl it)) told

  pub marked_hinders : (o : Option (Result Answer DrillFault)) → within ≡ false → IfSome (lock_of x.dialect x.committed) (λ lock. Holds stamp lock holding.Marked) → IsTold session x o → Hinders d stamp session within x o
  marked_hinders o is held told = held_hinders o is (held_map (lock_of x.dialect x.committed) (λ lock. Holds stamp lock holding.Marked) (IsHeld stamp) held (λ lock it. inr it)) told

pub told_busy : (session : ℕ) (x : State) (why : StoreFault) (r : Result Answer DrillFault) → IsBusy session x why → TellsOpen why r → IsTold session x (Some r)
told_busy session x (fault.Busy n) r busy tells = subst (λ q. IsTold session x (Some q)) (sym tells) (n, busy, refl)
told_busy session x fault.Disk r busy tells = absurd busy
told_busy session x (fault.Full used next) r busy tells = absurd busy
told_busy session x (fault.Refused reason) r busy tells = absurd busy
told_busy session x fault.NotSql r busy tells = absurd busy
told_busy session x fault.OutOfMemory r busy tells = absurd busy

-- after a fault

pub not_none : {A X : Type 0} (o : Option A) (a : A) → o ≡ Some a → o ≡ None → X
not_none o a is none = no_fact (sym (ap is_some none) ∙ ap is_some is)

pub not_some : {A X : Type 0} (o : Option A) → o ≡ None → is_some o ≡ true → X
not_some o none some = no_fact (sym (ap is_some none) ∙ some)

pub no_disk_after : {X : Type 0} (o : Option StoreFault) (why : StoreFault) (r : Result Answer DrillFault) → o ≡ Some why → disk_failed o ≡ false → IfErr r (λ w. w ≡ fault_of why) → r ≡ Err drill.Disk → X
no_disk_after o why (Ok a) is clean it disk = Prim.cc
no_disk_after o why (Err w) is clean it disk = no_fact (sym clean ∙ ap disk_failed is ∙ ap is_disk (the_disk why (sym it ∙ err_is disk)))

-- what was found is answered, or the fault

pub own_ok : (r : Result Answer DrillFault) → IfOk r (λ a. r ≡ Ok a)
own_ok (Ok a) = refl
own_ok (Err why) = tt

pub own_err : (r : Result Answer DrillFault) (P : DrillFault → Type 0) → IfErr r (λ why. (r ≡ Err why) ⊎ P why)
own_err (Ok a) P = tt
own_err (Err why) P = inl refl

pub kept_ok : (r found : Result Answer DrillFault) (answer : Answer) → found ≡ Ok answer → IfOk r (λ a. a ≡ answer) → IfOk r (λ a. found ≡ Ok a)
kept_ok (Ok a) found answer is it = is ∙ ap (λ b. Ok b) (sym it)
kept_ok (Err why) found answer is it = tt

pub met_err : (r : Result Answer DrillFault) (o : Option StoreFault) (met : StoreFault) (P : DrillFault → Type 0) → o ≡ Some met → IfErr r (λ why. why ≡ fault_of met) → IfErr r (λ why. P why ⊎ ((it : StoreFault) × (o ≡ Some it) × (fault_of it ≡ why)))
met_err (Ok a) o met P is it = tt
met_err (Err why) o met P is it = inr (met, is, sym it)

pub unlocked_err : (r found : Result Answer DrillFault) (answer : Answer) → found ≡ Ok answer → IfErr r (λ why. tells_locked answer ≡ false) → IfErr r (λ why. (found ≡ Err why) ⊎ ((a : Answer) × (found ≡ Ok a) × (tells_locked a ≡ false)))
unlocked_err (Ok a) found answer is it = tt
unlocked_err (Err why) found answer is it = inr (answer, is, it)

-- an end

pub whole_disk : (e : End) → is_failed_end e ≡ false → is_disk_end e ≡ false
whole_disk end.Done whole = refl
whole_disk (end.Refused refusal) whole = refl
whole_disk (end.Locked lock) whole = refl
whole_disk end.Disk whole = absurd (not_true (sym whole))
whole_disk (end.Full used next) whole = refl
whole_disk end.OutOfMemory whole = refl
