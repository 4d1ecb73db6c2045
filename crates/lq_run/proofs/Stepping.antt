-- The kinds of step.
use Rattle.std.proofs.Common.{ap, inl, inr, subst, sym, ◌∙◌}
use Rattle.std.proofs.lemmas.List.{length-reverse}
use Rattle.std.specs.Prelude.{Bool, Err, List, None, Ok, Option, Result, Some, [], false, is_some, length, refl, reverse, true, ℕ, ◌&&◌, ◌++◌, ◌∷◌, ◌≡◌, ◌≢◌, ◌⊎◌}
use Rattle.lq_base.specs.declared.dialect.Dialect.{Dialect}
use Rattle.lq_base.specs.declared.reason.Reason.{Reason}
use Rattle.lq_model.specs.declared.caller.Room.{Room}
use Rattle.lq_model.specs.declared.caller.Room.TheVariants.{Ordinary, Release}
use Rattle.lq_model.specs.declared.fault.StoreFault.{StoreFault}
use Rattle.lq_model.specs.declared.fault.StoreFault.TheVariants as fault
use Rattle.lq_store.specs.Journal.{Crashes, CrashesLeave, State, Transaction, is_open, seen, seen_in}
use Rattle.lq_track.specs.Database.{Database}
use Rattle.lq_turns.specs.Deed.{contents_of, with_contents, lock_after}
use Rattle.lq_turns.specs.Session.{Both, Session, called, closed, is_own, settled_if}
use Rattle.lq_turns.specs.Schedule.{StandsFor, all_fit}
use Rattle.lq_turns.specs.Rest.{GivingUp, Inside, NoMore, Over, Place, Turns, between, if_goes_on, rest, both_of}
use Rattle.lq_turns.specs.Script.{closing}
use Rattle.lq_turns.specs.Set.{Meaning}
use Rattle.lq_turns.specs.declared.call.Call.{Call}
use Rattle.lq_turns.specs.declared.call.Call.TheVariants.{Abort}
use Rattle.lq_turns.specs.declared.deed.Deed.TheVariants.{Locks}
use Rattle.lq_turns.specs.declared.deed.OnLock.TheVariants.{Freed}
use Rattle.lq_turns.specs.declared.stamp.Stamp.{Stamp}
use Rattle.lq_turns.specs.declared.stop.Refusal.{Refusal}
use Rattle.lq_beside.specs.Replays.{calls_fit}
use Rattle.lq_hand.specs.Way.{Enters, rest_at, Expects, GivesUp, Way, coming_of, first_coming, no_progress, progress_after, refusal_at, refusal_by, with_accepted, with_refused}
use Rattle.lq_hand.specs.Hand.{AreTurns, IsReady, calls_left, hand_place, place_of}
use Rattle.lq_hand.specs.declared.hand.Hand.{Hand}
use Rattle.lq_hand.specs.declared.hand.Phase.{Phase}
use Rattle.lq_hand.specs.declared.hand.Phase.TheVariants as phase
use Rattle.lq_hand.specs.declared.source.Entered.TheVariants as entered
use Rattle.lq_run.proofs.Doing.{differ}
use Rattle.lq_run.proofs.Known.{expects_on, known_back, known_left, known_on, known_refused, known_shown, shows_own, tells_fault, unstopped, yields_refused}
use Rattle.lq_run.proofs.Since.{leave_then, leave_wider, none_yet}
use Rattle.lq_run.proofs.Takes.{still_next}
use Rattle.lq_run.specs.Crashing.{CrashesClosing, CrashesNext, CrashesStep, CrashesTaken, LeftAlone, LeftInClosing, LeftInNext, LeftInStep, MayFree}
use Rattle.lq_run.specs.Stands.{IsBare, IsBegun, Stands}
use Rattle.lq_run.specs.Does.{AbortFor, AloneFor, DoesAlone, Faults}
use Rattle.lq_run.specs.Moves.{Goes, IsAt, Meets, Refuses, Takes, refusal_of}
use Rattle.lq_run.specs.Steps.{Closes, Ends, EndsFor, EndsStep, FailsAs, FailsTo, IsBetween, IsShowing, IsShown, IsThere, Known, KnownIn, Shows, Standing, Steps, StepsAs, StepsShown, TellsAs, end_of, enters_turns, is_disk, last_end, no_turn, place, progress_at, progress_in, stopped_by, turns_of}
use Rattle.lq_run.specs.declared.hand.Moved.TheVariants as moved
use Rattle.lq_hand.specs.declared.progress.Coming.{Coming}
use Rattle.lq_hand.specs.declared.progress.Progress.{Progress}
use Rattle.lq_run.specs.declared.runner.End.{End}
use Rattle.lq_run.specs.declared.runner.Step.{Step}
use Rattle.lq_run.specs.declared.runner.Step.TheVariants as step

not_err : {r : Database} {reason : Reason} → (let z : Result Database Reason = Ok r in z) ≡ Err reason → ⊥
not_err h = Prim.cc

not_true : false ≡ true → ⊥
not_true h = Prim.cc

some_none : {why : StoreFault} → (let o : Option StoreFault = Some why in o) ≡ None → ⊥
some_none h = Prim.cc

cons_nil : (call : Call) (calls : List Call) → 0 ≡ length (call ∷ calls) → ⊥
cons_nil call calls h = Prim.cc

nil_of : (calls : List Call) → 0 ≡ length calls → calls ≡ []
nil_of [] h = refl
nil_of (call ∷ calls) h = absurd (cons_nil call calls h)

pub some_left : (calls : List Call) → calls ≢ [] → reverse calls ≢ []
some_left calls left none = left (nil_of calls (sym (ap length none) ∙ length-reverse calls))

pub not_none : (calls : List Call) (b : Bool) → (calls ≡ [] → b ≡ true) → b ≡ false → calls ≢ []
not_none calls b empty is none = not_true (sym is ∙ empty none)

-- the answer after the last call
abbrev pub closed_as : End → Result (Unit {0}) StoreFault → End
closed_as last (Ok u) = last
closed_as last (Err why) = end_of why

-- what stops a command

pub no_turns : {Key : Type 0} (why : StoreFault) (refused : Option Refusal) (turns : Turns Key) (after : Option StoreFault) → after ≡ Some why → if_goes_on (enters_turns after refused) turns ≡ NoMore
no_turns why refused turns after is = ap (λ f. if_goes_on (enters_turns f refused) turns) is

stopped_turns : {Key : Type 0} (f : Option StoreFault) (r : Option Refusal) (goes_on : Bool) (refusal : Refusal) (turns : Turns Key)
    → if_goes_on (enters_turns f (stopped_by (Some refusal) goes_on r)) turns ≡ if_goes_on goes_on (if_goes_on (enters_turns f r) turns)
stopped_turns f r true refusal turns = refl
stopped_turns None r false refusal turns = refl
stopped_turns (Some why) r false refusal turns = refl

-- how far a turn has come

progress_none : (at : Phase) (calls : List Call) → progress_at at calls no_progress ≡ no_progress
progress_none phase.Inside [] = refl
progress_none phase.Inside (call ∷ calls) = refl
progress_none phase.GivingUp calls = refl
progress_none phase.Over calls = refl

progress_begun : (at : Phase) (calls : List Call) (p : Progress) → calls ≢ [] → progress_at at calls p ≡ p
progress_begun phase.Inside [] p left = absurd (left refl)
progress_begun phase.Inside (call ∷ calls) p left = refl
progress_begun phase.GivingUp calls p left = refl
progress_begun phase.Over calls p left = refl

-- the first of these calls was counted
counted : (d : Dialect) (why : Option Reason) (coming : Coming) (calls more : List Call) (call : Call) (at : Phase) (held : List Call) (p : Progress) → coming ≡ first_coming d calls → calls ≡ call ∷ more → held ≢ []
    → progress_after coming why p ≡ progress_after (coming_of d call) why (progress_at at held p)
counted d why coming calls more call at held p is first left =
    ap (λ c. progress_after c why p) (is ∙ ap (first_coming d) first) ∙ ap (progress_after (coming_of d call) why) (sym (progress_begun at held p left))

module _ {Key : Type 0} (d : Dialect) (m : Meaning Key) (stamp : Stamp) (number : ℕ) where
  -- after a fault the abort and the closing fit
  last_fit : (s : Session) → s.committed.has_lock_row ≡ true → calls_fit d (rest d m stamp (GivingUp NoMore) (both_of s)) s ≡ true
  last_fit s is = ap (λ b. (b && true) && true) is

  given_up : (p : Place Key) (x start : State) (s : Session) → IsAt d m stamp number p x start s → s.is_open ≡ true → IsAt d m stamp number (GivingUp NoMore) x start s
  given_up p x start s is opened = record { dialect = is.dialect; stands = is.stands; ready = opened; fits = last_fit s is.row.0; row = is.row }

  unchanged : (why : StoreFault) (start : State) (s : Session) (x y : State) (room : Room) (call : Call) → is_disk why ≡ false → Faults start number x s room call why y → y ≡ x
  unchanged fault.Disk start s x y room call other faults = absurd (not_true (sym other))
  unchanged (fault.Full used next) start s x y room call other faults = faults.1
  unchanged fault.OutOfMemory start s x y room call other faults = faults
  unchanged (fault.Refused reason) start s x y room call other faults = absurd faults
  unchanged fault.NotSql start s x y room call other faults = absurd faults
  unchanged (fault.Busy n) start s x y room call other faults = absurd faults

  disk_meets : (why : StoreFault) (p : Place Key) (start : State) (s : Session) (x y : State) → is_disk why ≡ true → Meets d m stamp number p start s x Ordinary why y → Meets d m stamp number p start s x Ordinary fault.Disk y
  disk_meets fault.Disk p start s x y is meets = meets
  disk_meets (fault.Full used next) p start s x y is meets = absurd (not_true is)
  disk_meets fault.OutOfMemory p start s x y is meets = absurd (not_true is)
  disk_meets (fault.Refused reason) p start s x y is meets = absurd (not_true is)
  disk_meets fault.NotSql p start s x y is meets = absurd (not_true is)
  disk_meets (fault.Busy n) p start s x y is meets = absurd (not_true is)

  -- the last call

  pub closes : (p : Place Key) (last : End) (x y start : State) (s : Session) (result : Result (Unit {0}) StoreFault) → AloneFor d number (Locks Freed ∷ []) Release x result y → IsAt d m stamp number p x start s
      → rest d m stamp p (both_of s) ≡ closing ∷ [] → Closes d m stamp number p last start s x (closed_as last result) y
  closes p last x y start s result alone is left = by result (alone start s is.dialect is.stands fit) where
    fit : all_fit d (Locks Freed ∷ []) s.seen ≡ true
    fit = ap (λ b. b && true) is.row.1

    last_row : (called d closing s).committed.has_lock_row ≡ true
    last_row = by_own (is_own d (Locks Freed)) where
      by_own : (o : Bool) → (closed (settled_if o (record (settled_if o s) { seen = with_contents (lock_after Freed s.seen) (contents_of s.seen); begun = (settled_if o s).begun ++ Locks Freed ∷ [] }))).committed.has_lock_row ≡ true
      by_own true = is.row.1
      by_own false = is.row.1

    faults_of : (why : StoreFault) → DoesAlone start number x s (Locks Freed ∷ []) Release (Err why) y → Faults start number x s Release closing why y
    faults_of fault.Disk does = does
    faults_of (fault.Full used next) does = does
    faults_of fault.OutOfMemory does = does
    faults_of (fault.Refused reason) does = absurd (not_err does.0)
    faults_of fault.NotSql does = absurd does
    faults_of (fault.Busy n) does = absurd does

    by : (result : Result (Unit {0}) StoreFault) → DoesAlone start number x s (Locks Freed ∷ []) Release result y → Closes d m stamp number p last start s x (closed_as last result) y
    by (Ok u) does = inl (
      record {
        after = called d closing s;
        at = record {
          dialect = is.dialect;
          stands = subst (λ e. Stands start number y (called e closing s)) is.dialect does.2;
          ready = refl;
          fits = refl;
          row = (last_row, last_row);
        };
        went = record { call = closing; next = left; is = refl };
      },
      refl,
    )
    by (Err why) does = inr (why, record { call = closing; more = []; next = left; by = refl; faults = faults_of why does }, refl)

  -- between two turns

  module _ (x : State) (shut : is_open number x.begun ≡ false) (start : State) (s : Session) (stands : Stands start number x s) where
    shut_by : (o : Option Transaction) → IsBegun start.dialect number s o → is_open number o ≡ false → (s.is_open ≡ false) × (s.seen ≡ s.committed) × (seen_in number o x.committed ≡ x.committed)
    shut_by None begun h = (begun.0, begun.1, refl)
    shut_by (Some t) begun h = absurd (differ t.session number begun.1 h)

    pub is_shut : (s.is_open ≡ false) × (s.seen ≡ s.committed) × (seen number x ≡ x.committed)
    is_shut = shut_by x.begun stands.begun shut

    pub seen_stands : start.dialect ≡ d → StandsFor d (seen number x) s.committed
    seen_stands is = subst (λ c. StandsFor d c s.committed) (sym is_shut.2) (subst (λ e. StandsFor e x.committed s.committed) is stands.committed)

  pub lacks : (p : Place Key) (x start : State) (s : Session) → IsAt d m stamp number p x start s → s.is_open ≡ false → IsAt d m stamp number (between NoMore) x start s
  lacks p x start s is shut = record { dialect = is.dialect; stands = is.stands; ready = shut; fits = ap (λ b. (b && true) && true) is.row.1; row = is.row }

  -- at an end

  tells_closed : (way : Way) (p : Place Key) (last : End) (start : State) (s : Session) (x : State) (e : End) (y : State) → TellsAs way last → Closes d m stamp number p last start s x e y → TellsAs way e
  tells_closed way p last start s x e y tells (inl is) = subst (TellsAs way) (sym is.1) tells
  tells_closed way p last start s x e y tells (inr is) = subst (TellsAs way) (sym is.2) (tells_fault way is.0)

  tells_ended : (way : Way) (p : Place Key) (f : Option StoreFault) (r : Option Refusal) (start : State) (s : Session) (x : State) (e : End) (y : State) → (f ≡ None → TellsAs way (last_end None r))
      → Ends d m stamp number p f r start s x e y → TellsAs way e
  tells_ended way p None r start s x e y tells ends = tells_closed way p (last_end None r) start s x e y (tells refl) ends
  tells_ended way p (Some why) r start s x e y tells (inl is) = tells_closed way p (end_of why) start s x e y (tells_fault way why) is.1
  tells_ended way p (Some why) r start s x e y tells (inr is) = subst (TellsAs way) (sym is.2) (tells_fault way why)

  -- there was no memory for the next call in hand, and its transaction is taken back
  pub lack_crash : (hand : Hand) (turns : Turns Key) (x y : State) (a between_calls b : Crashes) → hand.phase ≡ phase.Inside → hand.calls ≢ [] → y ≡ x
      → CrashesTaken d m stamp number hand x a between_calls → CrashesLeave y.entries LeftAlone between_calls b → CrashesNext d m stamp number (place_of hand turns) x a b
  lack_crash hand turns x y a between_calls b inside left same crash leave start s is =
      leave_then x.entries (LeftInNext d m stamp number (place_of hand turns) s) a between_calls b (crash turns start s is)
      (leave_wider x.entries LeftAlone (LeftInNext d m stamp number (place_of hand turns) s) between_calls b (still_next d m stamp number hand turns x start s inside (some_left hand.calls left) is)
      (subst (λ z. CrashesLeave z.entries LeftAlone between_calls b) same leave))

module _ {Key Told : Type 0} (d : Dialect) (m : Meaning Key) (stamp : Stamp) (number : ℕ) where
  -- a call is accepted
  pub steps_on : (before : Standing Key Told) (new : Hand) (turns : Turns Key) (way : Dialect → Stamp → Told → Way) (coming : Coming) (p : Progress) (x y : State)
      → before.hand.phase ≡ phase.Inside → before.hand.calls ≢ [] → new.phase ≡ phase.Inside → new.goes_on ≡ before.hand.goes_on → turns ≡ before.turns
      → ((told : Told) (on : Bool) (q : Progress) (z : Both) → Expects d (before.way d stamp told) on (calls_left new) q z → KnownIn d (way d stamp told) on (calls_left new) q z)
      → coming ≡ first_coming d (calls_left before.hand) → p ≡ with_accepted coming before.progress
      → Takes d m stamp number before.hand x moved.On new y
      → StepsShown d m stamp number before (record { hand = new; turns = turns; way = way; progress = p; fault = before.fault; refused = before.refused }) x step.Going y
  steps_on before new turns way coming p x y inside left still on same keeps is_coming counts takes start s told is =
      let took = takes (turns_of before) start s is.at in
      let counted_on : p ≡ with_accepted (first_coming d (calls_left before.hand)) before.progress = counts ∙ ap (λ c. with_accepted c before.progress) is_coming in
      let now : Both = both_of took.goes.after in
      subst (λ t. StepsAs d m stamp number before (record { hand = new; turns = t; way = way; progress = p; fault = before.fault; refused = before.refused }) told start s x step.Going y) (sym same)
      (inl (record {
        goes = took.goes;
        known = λ healthy. subst (λ ph. Known d (way d stamp told) before.refused (hand_place ph (calls_left new) new.goes_on (turns_of before)) p now) (sym still)
            (known_on d (before.way d stamp told) (way d stamp told) before.hand.goes_on (calls_left before.hand) before.progress (both_of s) before.refused (calls_left new) new.goes_on (turns_of before) p now (is.known healthy)
            (λ e. keeps told new.goes_on p now
            (subst (λ b. Expects d (before.way d stamp told) b (calls_left new) p now) (sym on)
            (subst (λ q. Expects d (before.way d stamp told) before.hand.goes_on (calls_left new) q now) (sym counted_on)
            (expects_on d (before.way d stamp told) before.hand.goes_on (calls_left before.hand) (calls_left new) s took.goes.after before.progress took.continues e)))));
        fault = refl;
        progress = counts ∙ counted d None coming (calls_left before.hand) (calls_left new) took.goes.went.call before.hand.phase before.hand.calls before.progress is_coming took.first left
            ∙ ap (λ o. progress_after (coming_of d took.goes.went.call) o (progress_in before)) (sym took.none);
        refused = sym (ap (λ o. stopped_by (refusal_by p o) new.goes_on before.refused) took.none);
      }))

  -- a call is refused
  pub steps_refused : (before : Standing Key Told) (new : Hand) (turns : Turns Key) (way : Dialect → Stamp → Told → Way) (coming : Coming) (p : Progress) (reason : Reason) (stops : Option Refusal) (x y : State)
      → before.hand.phase ≡ phase.Inside → before.hand.calls ≢ [] → new.phase ≡ phase.GivingUp → new.goes_on ≡ before.hand.goes_on → turns ≡ before.turns
      → ((told : Told) → GivesUp (before.way d stamp told) (way d stamp told))
      → coming ≡ first_coming d (calls_left before.hand) → p ≡ with_refused coming before.progress → stops ≡ stopped_by (Some (refusal_at p reason)) new.goes_on before.refused
      → Takes d m stamp number before.hand x (moved.Refused reason) new y
      → StepsShown d m stamp number before (record { hand = new; turns = turns; way = way; progress = p; fault = before.fault; refused = stops }) x step.Going y
  steps_refused before new turns way coming p reason stops x y inside left gives on same gives_up is_coming counts stopped takes start s told is =
      let stop : Option Refusal = stopped_by (Some (refusal_at p reason)) new.goes_on before.refused in
      let left_turns : if_goes_on before.hand.goes_on (turns_of before) ≡ if_goes_on (enters_turns before.fault stop) before.turns
      = ap (λ g. if_goes_on g (turns_of before)) (sym on) ∙ sym (stopped_turns before.fault before.refused new.goes_on (refusal_at p reason) before.turns) in
      let took : Refuses d m stamp number (place before) (place_of new (if_goes_on (enters_turns before.fault stop) before.turns)) (calls_left before.hand) reason start s y
      = subst (λ t. Refuses d m stamp number (place before) (place_of new t) (calls_left before.hand) reason start s y) left_turns (takes (turns_of before) start s is.at) in
      let counted_off : refusal_at (with_refused (first_coming d (calls_left before.hand)) before.progress) reason ≡ refusal_at p reason
      = ap (λ q. refusal_at q reason) (sym (counts ∙ ap (λ c. with_refused c before.progress) is_coming)) in
      let now : Both = both_of took.goes.after in
      subst (λ t. StepsAs d m stamp number before (record { hand = new; turns = t; way = way; progress = p; fault = before.fault; refused = stops }) told start s x step.Going y) (sym same)
      (subst (λ w. StepsAs d m stamp number before (record { hand = new; turns = before.turns; way = way; progress = p; fault = before.fault; refused = w }) told start s x step.Going y) (sym stopped)
      (inl (record {
        goes = took.goes;
        known = λ healthy. subst (λ ph. Known d (way d stamp told) stop (hand_place ph (calls_left new) new.goes_on (if_goes_on (enters_turns before.fault stop) before.turns)) p now) (sym gives)
            (known_refused d (before.way d stamp told) (way d stamp told) before.hand.goes_on (calls_left before.hand) before.progress (both_of s) before.refused new.goes_on (refusal_at p reason) (if_goes_on (enters_turns before.fault stop) before.turns) p now (is.known healthy) (gives_up told)
            (λ e. subst (λ b. (before.way d stamp told).yields b (refusal_at p reason) now.0) (sym on)
            (subst (λ r. (before.way d stamp told).yields before.hand.goes_on r now.0) counted_off
            (yields_refused d (before.way d stamp told) before.hand.goes_on (calls_left before.hand) reason s took.goes.after before.progress took.breaks_off e))));
        fault = refl;
        progress = counts ∙ counted d (Some reason) coming (calls_left before.hand) took.more took.goes.went.call before.hand.phase before.hand.calls before.progress is_coming took.first left
            ∙ ap (λ o. progress_after (coming_of d took.goes.went.call) o (progress_in before)) (sym took.why);
        refused = sym (ap (λ o. stopped_by (refusal_by p o) new.goes_on before.refused) took.why);
      })))

  -- a fault in a transaction
  pub steps_failed : (before after : Standing Key Told) (new : Hand) (why : StoreFault) (x y : State) (result : Step) → Takes d m stamp number before.hand x (moved.Failed why) new y
      → FailsTo why after.hand.phase after.fault result → StepsShown d m stamp number before after x result y
  steps_failed before after new why x y result takes fails start s told is = by (is_disk why) refl fails where
    took : Meets d m stamp number (place before) start s x Ordinary why y × (s.is_open ≡ true)
    took = takes (turns_of before) start s is.at

    by : (b : Bool) → is_disk why ≡ b → FailsAs b why after.hand.phase after.fault result → StepsAs d m stamp number before after told start s x result y
    by true disk ended = subst (λ r. StepsAs d m stamp number before after told start s x r y) (sym ended.0) (inr (inr (disk_meets d m stamp number why (place before) start s x y disk took.0, refl)), tt)
    by false other fails =
        let gives : place after ≡ GivingUp NoMore = ap (λ a. hand_place a (calls_left after.hand) after.hand.goes_on (turns_of after)) fails.1 ∙ ap GivingUp (no_turns why after.refused after.turns after.fault fails.2) in
        subst (λ r. StepsAs d m stamp number before after told start s x r y) (sym fails.0)
        (inr (inl (record {
          why = why;
          meets = took.0;
          fault = fails.2;
          gives_up = gives;
          at = subst (λ q. IsAt d m stamp number q y start s) (sym gives)
              (subst (λ z. IsAt d m stamp number (GivingUp NoMore) z start s) (sym (unchanged d m stamp number why start s x y Ordinary took.0.call other took.0.faults)) (given_up d m stamp number (place before) x start s is.at took.1));
        })))

  -- a transaction that there is no memory for is taken back
  pub steps_lacked : (before after : Standing Key Told) (new : Hand) (x between_calls y : State) → Takes d m stamp number before.hand x moved.Lack new between_calls → AbortFor d number between_calls y
      → after.hand ≡ no_turn → after.fault ≡ Some fault.OutOfMemory → StepsShown d m stamp number before after x step.Going y
  steps_lacked before after new x between_calls y takes aborts hand lacks start s told is =
      let took = takes (turns_of before) start s is.at in
      let ends : place after ≡ between NoMore = ap (λ (h : Hand). place_of h (turns_of after)) hand ∙ ap (λ t. between t) (no_turns fault.OutOfMemory after.refused after.turns after.fault lacks) in
      inr (inr (record {
        opened = took.1;
        fault = lacks;
        ends_turns = ends;
        at = subst (λ q. IsAt d m stamp number q y start (called d Abort s)) (sym ends) (record {
          dialect = is.at.dialect;
          stands = aborts start s is.at.dialect (subst (λ z. Stands start number z s) (sym took.0) is.at.stands);
          ready = refl;
          fits = ap (λ b. (b && true) && true) is.at.row.0;
          row = (is.at.row.0, is.at.row.0);
        });
      }))

  -- what was begun is taken back
  pub steps_back : (before : Standing Key Told) (hand : Hand) (x y : State) → before.hand.phase ≡ phase.GivingUp → hand ≡ no_turn → AbortFor d number x y
      → Steps d m stamp number before (record { hand = hand; turns = before.turns; way = before.way; progress = before.progress; fault = before.fault; refused = before.refused }) x step.Going y
  steps_back before hand x y gives none aborts start s told is held =
      let here : place before ≡ GivingUp (turns_of before) = ap (λ p. hand_place p (calls_left before.hand) before.hand.goes_on (turns_of before)) gives in
      subst (λ h. StepsAs d m stamp number before (record { hand = h; turns = before.turns; way = before.way; progress = before.progress; fault = before.fault; refused = before.refused }) told start s x step.Going y) (sym none)
      (inl (record {
        goes = record {
          after = called d Abort s;
          at = record {
            dialect = is.at.dialect;
            stands = aborts start s is.at.dialect is.at.stands;
            ready = refl;
            fits = subst (λ p. calls_fit d (rest d m stamp p (both_of s)) s ≡ true) here is.at.fits;
            row = (is.at.row.0, is.at.row.0);
          };
          went = record { call = Abort; next = ap (λ p. rest d m stamp p (both_of s)) here; is = refl };
        };
        known = λ healthy. known_back d (before.way d stamp told) before.refused true (turns_of before) before.progress (both_of s) (contents_of s.committed, contents_of s.committed) refl
            (subst (λ p. Known d (before.way d stamp told) before.refused p before.progress (both_of s)) here (is.known healthy));
        fault = refl;
        progress = sym (ap (λ a. progress_at a before.hand.calls before.progress) gives);
        refused = refl;
      }))

  pub back_crash : (before : Standing Key Told) (met : Option StoreFault) (x : State) (a b : Crashes) → before.hand.phase ≡ phase.GivingUp → CrashesLeave x.entries LeftAlone a b → CrashesStep d m stamp number before met x a b
  back_crash before met x a b gives leave start s told is held =
      let here : place before ≡ GivingUp (turns_of before) = ap (λ p. hand_place p (calls_left before.hand) before.hand.goes_on (turns_of before)) gives in
      leave_wider x.entries LeftAlone (LeftInStep d m stamp number before met s) a b (λ there left it. inl (record { call = Abort; others = _; next = ap (λ p. rest d m stamp p (both_of s)) here; by = refl; is = none_yet d Abort s there left it })) leave

  pub next_crash : (before : Standing Key Told) (met : Option StoreFault) (x : State) (a b : Crashes) → CrashesNext d m stamp number (place before) x a b → CrashesStep d m stamp number before met x a b
  next_crash before met x a b crash start s told is held = leave_wider x.entries (LeftInNext d m stamp number (place before) s) (LeftInStep d m stamp number before met s) a b (λ there left it. inl it) (crash start s is.at)

  -- what is to come is the same from another place
  pub from_same : (before here after : Standing Key Told) (told : Told) (x y start : State) (s : Session) (result : Step) → rest d m stamp (place before) (both_of s) ≡ rest d m stamp (place here) (both_of s)
      → here.fault ≡ before.fault → here.refused ≡ before.refused → progress_in here ≡ progress_in before → StepsAs d m stamp number here after told start s x result y → StepsAs d m stamp number before after told start s x result y
  from_same before here after told x y start s result same same_fault same_refused same_progress steps = by result steps where
    goes_so : (q : Place Key) → Goes d m stamp number (place here) q start s y → Goes d m stamp number (place before) q start s y
    goes_so q is = record { after = is.after; at = is.at; went = record { call = is.went.call; next = same ∙ is.went.next; is = is.went.is } }

    meets_so : (room : Room) (why : StoreFault) → Meets d m stamp number (place here) start s x room why y → Meets d m stamp number (place before) start s x room why y
    meets_so room why is = record { call = is.call; more = is.more; next = same ∙ is.next; by = is.by; faults = is.faults }

    closes_so : (last : End) (e : End) → Closes d m stamp number (place here) last start s x e y → Closes d m stamp number (place before) last start s x e y
    closes_so last e (inl is) = inl (goes_so Over is.0, is.1)
    closes_so last e (inr is) = inr (is.0, meets_so Release is.0 is.1, is.2)

    ends_so : (f : Option StoreFault) (r : Option Refusal) (e : End) → Ends d m stamp number (place here) f r start s x e y → Ends d m stamp number (place before) f r start s x e y
    ends_so None r e is = closes_so (last_end None r) e is
    ends_so (Some why) r e (inl is) = inl (is.0, closes_so (end_of why) e is.1)
    ends_so (Some why) r e (inr is) = inr is

    ended : (e : End) → EndsStep d m stamp number here start s x e y → EndsStep d m stamp number before start s x e y
    ended e (inl is) = inl (is.0, subst (λ f. Ends d m stamp number (place before) f before.refused start s x e y) same_fault (subst (λ r. Ends d m stamp number (place before) here.fault r start s x e y) same_refused (ends_so here.fault here.refused e is.1)))
    ended e (inr (inl is)) = inr (inl (is.0, subst (λ r. Ends d m stamp number (between NoMore) (Some fault.OutOfMemory) r start s x e y) same_refused is.1))
    ended e (inr (inr is)) = inr (inr (meets_so Ordinary fault.Disk is.0, is.1))

    by : (result : Step) → StepsAs d m stamp number here after told start s x result y → StepsAs d m stamp number before after told start s x result y
    by step.Going (inl is) = inl (record {
      goes = goes_so (place after) is.goes;
      known = is.known;
      fault = is.fault ∙ same_fault;
      progress = is.progress ∙ ap (progress_after (coming_of d is.goes.went.call) (refusal_of d is.goes.went.call s)) same_progress;
      refused = is.refused ∙ ap (stopped_by (refusal_by after.progress (refusal_of d is.goes.went.call s)) after.hand.goes_on) same_refused;
    })
    by step.Going (inr (inl is)) = inr (inl (record { why = is.why; meets = meets_so Ordinary is.why is.meets; fault = is.fault; gives_up = is.gives_up; at = is.at }))
    by step.Going (inr (inr is)) = inr (inr is)
    by (step.Ended e) is = (ended e is.0, is.1)

  -- the source looks at what the next call sees

  abbrev pub seen_by : Standing Key Told → (Dialect → Stamp → Told → Way) → Turns Key → Standing Key Told
  seen_by before way t = record { hand = before.hand; turns = t; way = way; progress = before.progress; fault = before.fault; refused = before.refused }

  pub shown_there : (before : Standing Key Told) (way : Dialect → Stamp → Told → Way) (coming : Coming) (x start : State) (s : Session) (told : Told)
      → before.hand.phase ≡ phase.Inside → before.hand.calls ≢ [] → coming ≡ first_coming d (calls_left before.hand)
      → (IsShowing number x → (told : Told) → Shows d coming (seen number x) (before.way d stamp told) (way d stamp told))
      → IsThere d m stamp number before x start s told → IsShown d m stamp number (seen_by before way before.turns) x start s told
  shown_there before way coming x start s told inside left is_coming shows is =
      let sees = shows_own d number start x s is.at.stands is.at.dialect in
      record {
        at = is.at;
        known = λ healthy. known_shown d (before.way d stamp told) (way d stamp told) before.hand.goes_on before.progress s (seen number x) sees.1 before.refused (calls_left before.hand) (turns_of before) (some_left before.hand.calls left)
            (subst (λ c. Shows d c (seen number x) (before.way d stamp told) (way d stamp told)) is_coming (shows sees.0 told))
            (subst (λ ph. Known d (before.way d stamp told) before.refused (hand_place ph (calls_left before.hand) before.hand.goes_on (turns_of before)) before.progress (both_of s)) inside (is.known healthy));
      }

  pub steps_shown : (before after : Standing Key Told) (turns : Turns Key) (way : Dialect → Stamp → Told → Way) (coming : Coming) (x y : State) (result : Step)
      → before.hand.phase ≡ phase.Inside → before.hand.calls ≢ [] → turns ≡ before.turns → coming ≡ first_coming d (calls_left before.hand)
      → (IsShowing number x → (told : Told) → Shows d coming (seen number x) (before.way d stamp told) (way d stamp told))
      → StepsShown d m stamp number (seen_by before way turns) after x result y
      → Steps d m stamp number before after x result y
  steps_shown before after turns way coming x y result inside left same is_coming shows steps start s told is held =
      let stepped : StepsShown d m stamp number (seen_by before way before.turns) after x result y = subst (λ t. StepsShown d m stamp number (seen_by before way t) after x result y) same steps in
      from_same before (seen_by before way before.turns) after told x y start s result refl refl refl refl (stepped start s told (shown_there before way coming x start s told inside left is_coming shows is))

  module _ (before : Standing Key Told) (x : State) (inside : before.hand.phase ≡ phase.Inside) (none : before.hand.calls ≡ []) (shut : is_open number x.begun ≡ false) where
    here : place before ≡ Inside [] before.hand.goes_on (turns_of before)
    here = ap (λ p. hand_place p (calls_left before.hand) before.hand.goes_on (turns_of before)) inside ∙ ap (λ (calls : List Call). Inside (reverse calls) before.hand.goes_on (turns_of before)) none

    none_begun : progress_in before ≡ no_progress
    none_begun = ap (λ a. progress_at a before.hand.calls before.progress) inside ∙ ap (λ calls. progress_at phase.Inside calls before.progress) none

    -- both, as what is committed
    both_is : (start : State) (s : Session) → Stands start number x s → both_of s ≡ (contents_of s.committed, contents_of s.committed)
    both_is start s stands = ap (λ (z : Database). (contents_of s.committed, contents_of z)) (is_shut d m stamp number x shut start s stands).1

    rest_between : (start : State) (s : Session) → Stands start number x s → rest d m stamp (place before) (both_of s) ≡ rest_at d m stamp (between (turns_of before)) (contents_of s.committed)
    rest_between start s stands = ap (λ p. rest d m stamp p (both_of s)) here ∙ ap (λ b. rest d m stamp (between (turns_of before)) b) (both_is start s stands)

    pub entering : enters_turns before.fault before.refused ≡ true → turns_of before ≡ before.turns
    entering enters = ap (λ b. if_goes_on b before.turns) enters

    pub contents_known : (start : State) (s : Session) (told : Told) → IsThere d m stamp number before x start s told → before.fault ≡ None → Known d (before.way d stamp told) before.refused (Inside [] before.hand.goes_on (turns_of before)) before.progress (both_of s)
    contents_known start s told is healthy = subst (λ p. Known d (before.way d stamp told) before.refused p before.progress (both_of s)) here (is.known healthy)

    pub knows_them : (start : State) (s : Session) (told : Told) → IsThere d m stamp number before x start s told → enters_turns before.fault before.refused ≡ true → (before.way d stamp told).knows (contents_of s.committed)
    knows_them start s told is enters =
        let none = unstopped before.fault before.refused enters in
        subst (λ r. Known d (before.way d stamp told) r (Inside [] before.hand.goes_on (turns_of before)) before.progress (both_of s)) none.1 (contents_known start s told is none.0)

    -- a turn is entered

    module _ (enters : enters_turns before.fault before.refused ≡ true) (hand : Hand) (turns : Turns Key) (way : Dialect → Stamp → Told → Way) (is_entered : Enters d m stamp before.turns (before.way d stamp) (seen number x) (entered.Turn hand) turns (way d stamp)) where
      abbrev entered_place : Place Key
      entered_place = place_of hand (if_goes_on (enters_turns before.fault before.refused) turns)

      pub entered_same : (start : State) (s : Session) (told : Told) → IsThere d m stamp number before x start s told → rest d m stamp (place before) (both_of s) ≡ rest d m stamp entered_place (both_of s)
      entered_same start s told is =
          let at_seen = is_entered.1 s.committed (seen_stands d m stamp number x shut start s is.at.stands is.at.dialect) told (knows_them start s told is enters) in
          let first : rest d m stamp (place before) (both_of s) ≡ rest_at d m stamp (between before.turns) (contents_of s.committed) = rest_between start s is.at.stands ∙ ap (λ t. rest_at d m stamp (between t) (contents_of s.committed)) (entering enters) in
          let later : rest_at d m stamp (place_of hand turns) (contents_of s.committed) ≡ rest d m stamp entered_place (both_of s)
          = ap (λ b. rest d m stamp (place_of hand turns) b) (sym (both_is start s is.at.stands)) ∙ ap (λ t. rest d m stamp (place_of hand t) (both_of s)) (sym (ap (λ b. if_goes_on b turns) enters)) in
          first ∙ at_seen.0 ∙ later

      pub entered_at : (start : State) (s : Session) (told : Told) → IsThere d m stamp number before x start s told → IsAt d m stamp number entered_place x start s
      entered_at start s told is = record {
        dialect = is.at.dialect;
        stands = is.at.stands;
        ready = subst (λ p. IsReady d s.is_open (hand_place p (calls_left hand) hand.goes_on (if_goes_on (enters_turns before.fault before.refused) turns))) (sym is_entered.0.inside) (subst (λ o. AreTurns d o (calls_left hand)) (sym (is_shut d m stamp number x shut start s is.at.stands).0) is_entered.0.turn);
        fits = subst (λ calls. calls_fit d calls s ≡ true) (entered_same start s told is) is.at.fits;
        row = is.at.row;
      }

      -- and its first call is made
      pub entered_crash : (met : Option StoreFault) (a b : Crashes) → CrashesNext d m stamp number entered_place x a b → CrashesStep d m stamp number before met x a b
      entered_crash met a b crash start s told is held =
          leave_wider x.entries (LeftInNext d m stamp number entered_place s) (LeftInStep d m stamp number before met s) a b
          (λ there left it. inl (record { call = it.call; others = it.others; next = entered_same start s told is ∙ it.next; by = it.by; is = it.is })) (crash start s (entered_at start s told is))

    abbrev pub entered_by : Hand → Turns Key → (Dialect → Stamp → Told → Way) → Progress → Standing Key Told
    entered_by hand turns way p = record { hand = hand; turns = turns; way = way; progress = p; fault = before.fault; refused = before.refused }

    pub entered_there : (enters : enters_turns before.fault before.refused ≡ true) (hand : Hand) (turns : Turns Key) (way : Dialect → Stamp → Told → Way) (p : Progress) → p ≡ no_progress
        → (is_entered : Enters d m stamp before.turns (before.way d stamp) (seen number x) (entered.Turn hand) turns (way d stamp))
        → (start : State) (s : Session) (told : Told) → IsThere d m stamp number before x start s told → IsThere d m stamp number (entered_by hand turns way p) x start s told
    entered_there enters hand turns way p begins is_entered start s told is =
        let at_seen = is_entered.1 s.committed (seen_stands d m stamp number x shut start s is.at.stands is.at.dialect) told (knows_them start s told is enters) in
        let left = some_left hand.calls is_entered.0.left in
        record {
          at = entered_at enters hand turns way is_entered start s told is;
          known = λ healthy. subst (λ ph. Known d (way d stamp told) before.refused (hand_place ph (calls_left hand) hand.goes_on (turns_of (entered_by hand turns way p))) p (both_of s)) (sym is_entered.0.inside)
              (subst (λ r. Known d (way d stamp told) r (Inside (calls_left hand) hand.goes_on (turns_of (entered_by hand turns way p))) p (both_of s)) (sym (unstopped before.fault before.refused enters).1)
              (subst (λ q. KnownIn d (way d stamp told) hand.goes_on (calls_left hand) q (both_of s)) (sym begins)
              (subst (λ b. KnownIn d (way d stamp told) hand.goes_on (calls_left hand) no_progress b) (sym (both_is start s is.at.stands)) (known_left d (way d stamp told) hand.goes_on (calls_left hand) no_progress _ left at_seen.1))));
        }

    pub steps_entered : (enters : enters_turns before.fault before.refused ≡ true) (hand : Hand) (turns : Turns Key) (way : Dialect → Stamp → Told → Way) (p : Progress) (after : Standing Key Told) (y : State) (result : Step)
        → p ≡ no_progress → (is_entered : Enters d m stamp before.turns (before.way d stamp) (seen number x) (entered.Turn hand) turns (way d stamp))
        → Steps d m stamp number (entered_by hand turns way p) after x result y
        → Steps d m stamp number before after x result y
    steps_entered enters hand turns way p after y result begins is_entered steps start s told is held =
        from_same before (entered_by hand turns way p) after told x y start s result (entered_same enters hand turns way is_entered start s told is) refl refl (ap (progress_at hand.phase hand.calls) begins ∙ progress_none hand.phase hand.calls ∙ sym none_begun)
        (steps start s told (entered_there enters hand turns way p begins is_entered start s told is) (λ there. absurd (is_entered.0.left there.1)))

    -- the lock is freed

    frees : (why met : Option StoreFault) (a b : Crashes) (start : State) (s : Session) → IsAt d m stamp number (place before) x start s → (why ≡ None → (before.fault ≡ None) × (rest d m stamp (place before) (both_of s) ≡ closing ∷ []))
        → (is_some why ≡ true → is_some met ≡ true) → CrashesClosing d stamp number why x a b → CrashesLeave x.entries (LeftInStep d m stamp number before met s) a b
    frees why met a b start s is last stays crash =
        leave_wider x.entries (LeftInClosing d stamp why s) (LeftInStep d m stamp number before met s) a b (λ there left it. inr (may why last stays it.0, it.1)) (crash start s is.dialect is.stands fit) where
          fit : all_fit d (Locks Freed ∷ []) s.seen ≡ true
          fit = ap (λ b. b && true) is.row.1

          may : (w : Option StoreFault) → (w ≡ None → (before.fault ≡ None) × (rest d m stamp (place before) (both_of s) ≡ closing ∷ [])) → (is_some w ≡ true → is_some met ≡ true) → (w ≡ None) ⊎ IsBare stamp s.committed.lock → MayFree d m stamp number before met s
          may None only meets so = inl (only refl)
          may (Some f) only meets (inl none) = absurd (some_none none)
          may (Some f) only meets (inr bare) = inr (meets refl, (bare, (is_shut d m stamp number x shut start s is.stands).0))

    pub ended_crash : enters_turns before.fault before.refused ≡ true → (turns : Turns Key) (way : Told → Way) (met : Option StoreFault) (a b : Crashes) → Enters d m stamp before.turns (before.way d stamp) (seen number x) entered.NoTurn turns way
        → (is_some before.fault ≡ true → is_some met ≡ true) → CrashesClosing d stamp number before.fault x a b → CrashesStep d m stamp number before met x a b
    ended_crash enters turns way met a b is_entered stays crash start s told is held =
        let at_seen = is_entered s.committed (seen_stands d m stamp number x shut start s is.at.stands is.at.dialect) told (knows_them start s told is enters) in
        frees before.fault met a b start s is.at
        (λ none. (none, rest_between start s is.at.stands ∙ ap (λ t. rest_at d m stamp (between t) (contents_of s.committed)) (entering enters) ∙ at_seen.0)) stays crash

    pub stopped_crash : enters_turns before.fault before.refused ≡ false → (met : Option StoreFault) (a b : Crashes) → (is_some before.fault ≡ true → is_some met ≡ true) → CrashesClosing d stamp number before.fault x a b
        → CrashesStep d m stamp number before met x a b
    stopped_crash stopped met a b stays crash start s told is held =
        frees before.fault met a b start s is.at
        (λ none. (none, rest_between start s is.at.stands ∙ ap (λ b. rest_at d m stamp (between (if_goes_on b before.turns)) (contents_of s.committed)) stopped)) stays crash

    pub short_crash : (met : Option StoreFault) (a b : Crashes) → is_some met ≡ true → CrashesClosing d stamp number (Some fault.OutOfMemory) x a b → CrashesStep d m stamp number before met x a b
    short_crash met a b meets crash start s told is held = frees (Some fault.OutOfMemory) met a b start s is.at (λ none. absurd (some_none none)) (λ some. meets) crash

    ends_as : (f : Option StoreFault) (r : Option Refusal) (after : Standing Key Told) (told : Told) (y start : State) (s : Session) (result : Step) (p : Place Key) → IsAt d m stamp number p x start s → rest d m stamp p (both_of s) ≡ closing ∷ []
        → ((e : End) → Ends d m stamp number p f r start s x e y → EndsStep d m stamp number before start s x e y) → (f ≡ None → TellsAs (after.way d stamp told) (last_end None r))
        → EndsFor d m stamp number f r x result y → StepsAs d m stamp number before after told start s x result y
    ends_as f r after told y start s step.Going p at left so tells ends = absurd ends
    ends_as f r after told y start s (step.Ended e) p at left so tells ends =
        let it = ends p start s at left in
        (so e it, tells_ended d m stamp number (after.way d stamp told) p f r start s x e y tells it)

    -- there is no other turn
    pub steps_ended : (after : Standing Key Told) (y : State) (result : Step) → enters_turns before.fault before.refused ≡ true → (turns : Turns Key) (way : Told → Way)
        → Enters d m stamp before.turns (before.way d stamp) (seen number x) entered.NoTurn turns way
        → ((told : Told) (r : Option Refusal) → (way told).tells r → (after.way d stamp told).tells r)
        → EndsFor d m stamp number before.fault before.refused x result y → Steps d m stamp number before after x result y
    steps_ended after y result enters turns way is_entered same ends start s told is held =
        let none = unstopped before.fault before.refused enters in
        let at_seen = is_entered s.committed (seen_stands d m stamp number x shut start s is.at.stands is.at.dialect) told (knows_them start s told is enters) in
        ends_as before.fault before.refused after told y start s result (place before) is.at
        (rest_between start s is.at.stands ∙ ap (λ t. rest_at d m stamp (between t) (contents_of s.committed)) (entering enters) ∙ at_seen.0)
        (λ e so. inl ((is_shut d m stamp number x shut start s is.at.stands).0, so)) (λ healthy. subst (λ r. TellsAs (after.way d stamp told) (last_end None r)) (sym none.1) (same told None at_seen.1)) ends

    -- none is entered any more
    pub steps_stopped : (after : Standing Key Told) (y : State) (result : Step) → enters_turns before.fault before.refused ≡ false
        → ((told : Told) (r : Option Refusal) → (before.way d stamp told).tells r → (after.way d stamp told).tells r)
        → EndsFor d m stamp number before.fault before.refused x result y → Steps d m stamp number before after x result y
    steps_stopped after y result stopped same ends start s told is held =
        ends_as before.fault before.refused after told y start s result (place before) is.at
        (rest_between start s is.at.stands ∙ ap (λ b. rest_at d m stamp (between (if_goes_on b before.turns)) (contents_of s.committed)) stopped)
        (λ e so. inl ((is_shut d m stamp number x shut start s is.at.stands).0, so)) (λ healthy. tells_stopped before.refused (sym (ap (λ f. enters_turns f before.refused) healthy) ∙ stopped) (contents_known start s told is healthy)) ends where
          tells_stopped : (r : Option Refusal) → enters_turns None r ≡ false → Known d (before.way d stamp told) r (Inside [] before.hand.goes_on (turns_of before)) before.progress (both_of s) → TellsAs (after.way d stamp told) (last_end None r)
          tells_stopped None enters known = absurd (not_true (sym enters))
          tells_stopped (Some refusal) enters known = same told (Some refusal) known

    -- there is no memory for the next
    pub steps_short : (after : Standing Key Told) (y : State) (result : Step) → EndsFor d m stamp number (Some fault.OutOfMemory) before.refused x result y → Steps d m stamp number before after x result y
    steps_short after y result ends start s told is held =
        ends_as (Some fault.OutOfMemory) before.refused after told y start s result (between NoMore) (lacks d m stamp number (place before) x start s is.at (is_shut d m stamp number x shut start s is.at.stands).0) refl
        (λ e so. inr (inl ((is_shut d m stamp number x shut start s is.at.stands).0, so))) (λ healthy. absurd (some_none healthy)) ends

-- places that ask for a transaction

pub ready_inside : {Key : Type 0} (d : Dialect) (opened : Bool) (hand : Hand) (turns : Turns Key) → hand.phase ≡ phase.Inside → IsReady d opened (place_of hand turns) → AreTurns d opened (calls_left hand)
ready_inside d opened hand turns is ready = subst (λ p. IsReady d opened (hand_place p (calls_left hand) hand.goes_on turns)) is ready

pub ready_giving_up : {Key : Type 0} (d : Dialect) (opened : Bool) (hand : Hand) (turns : Turns Key) → hand.phase ≡ phase.GivingUp → IsReady d opened (place_of hand turns) → opened ≡ true
ready_giving_up d opened hand turns is ready = subst (λ p. IsReady d opened (hand_place p (calls_left hand) hand.goes_on turns)) is ready

pub none_left : (d : Dialect) (opened : Bool) (hand : Hand) → AreTurns d opened (calls_left hand) → hand.calls ≡ [] → opened ≡ false
none_left d opened hand turns none = subst (λ (calls : List Call). AreTurns d opened (reverse calls)) none turns

pub not_between : (hand : Hand) → hand.phase ≡ phase.GivingUp → IsBetween hand → ⊥
not_between hand gives there = phases (sym gives ∙ there.0) where
  phases : phase.GivingUp ≡ phase.Inside → ⊥
  phases h = Prim.cc
