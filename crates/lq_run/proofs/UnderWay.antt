-- A source is still on its way where its command meets a fault.
use Rattle.std.proofs.Common.{inl, inr, subst, sym, ◌∙◌}
use Rattle.std.specs.Prelude.{Bool, Err, IfSome, List, None, Ok, Option, Result, Some, [], false, refl, true, ℕ, ◌∷◌, ◌≡◌, ◌≢◌}
use Rattle.lq_base.specs.declared.dialect.Dialect.{Dialect}
use Rattle.lq_base.specs.declared.reason.Reason.{Reason}
use Rattle.lq_model.specs.Catalogue.{Catalogue}
use Rattle.lq_model.specs.declared.fault.StoreFault.{StoreFault}
use Rattle.lq_store.specs.Journal.{State, is_open, seen}
use Rattle.lq_turns.specs.Deed.{Contents, contents_of, contents_after}
use Rattle.lq_turns.specs.Session.{Both, accepted_by, are_accepted, went, Session}
use Rattle.lq_turns.specs.Rest.{Inside, Turns, both_of}
use Rattle.lq_turns.specs.Set.{Meaning}
use Rattle.lq_turns.specs.declared.call.Call.{Call}
use Rattle.lq_turns.specs.declared.call.Call.TheVariants.{Abort, Alone, Begin, Commit, Execute}
use Rattle.lq_turns.specs.declared.deed.Deed.{Deed}
use Rattle.lq_turns.specs.declared.stamp.Stamp.{Stamp}
use Rattle.lq_turns.specs.declared.stop.Refusal.{Refusal}
use Rattle.lq_hand.specs.Way.{coming_of, first_coming, no_progress, with_accepted, Enters, Expects, IsUnderWay, Way, refused_by, refused_in, sights}
use Rattle.lq_hand.specs.Hand.{calls_left}
use Rattle.lq_hand.specs.declared.hand.Hand.{Hand}
use Rattle.lq_hand.specs.declared.hand.Phase.TheVariants as phase
use Rattle.lq_hand.specs.declared.progress.Coming.{Coming}
use Rattle.lq_hand.specs.declared.progress.Progress.{Progress}
use Rattle.lq_hand.specs.declared.source.Entered.TheVariants as entered
use Rattle.lq_run.proofs.Stepping.{contents_known, entered_by, entered_there, knows_them, seen_by, seen_stands, shown_there}
use Rattle.lq_run.proofs.Losing.{at_place}
use Rattle.lq_run.specs.Stands.{Holds, IsHeld}
use Rattle.lq_run.specs.Moves.{unseen}
use Rattle.lq_run.specs.Steps.{EndsFor, FailsAs, FailsTo, IsBetween, IsShowing, IsShown, IsThere, Known, KnownIn, KnownNext, Shows, Standing, end_of, enters_turns, is_disk, place, turns_of, AfterFault, IfFull, IsAfterFault, Stays, StaysAs, StaysShown}
use Rattle.lq_run.specs.declared.holding.Holding.TheVariants as holding
use Rattle.lq_track.specs.Database.{lock_of}
use Rattle.lq_run.specs.declared.runner.End.{End}
use Rattle.lq_run.specs.declared.runner.End.TheVariants as end
use Rattle.lq_run.specs.declared.runner.Step.{Step}
use Rattle.lq_run.specs.declared.runner.Step.TheVariants as step

some_none : {refusal : Refusal} → (let o : Option Refusal = Some refusal in o) ≡ None → ⊥
some_none h = Prim.cc

not_true : false ≡ true → ⊥
not_true h = Prim.cc

not_inside : phase.GivingUp ≡ phase.Inside → ⊥
not_inside h = Prim.cc

-- calls of which none is refused are all accepted
none_refused : (d : Dialect) (calls : List Call) (p : Progress) (c : Contents) → refused_in d calls p c ≡ None → are_accepted d calls c ≡ true
none_refused d [] p c none = refl
none_refused d (Execute deed ∷ calls) p c none = by (contents_after d deed c) (none_refused d calls) none where
  by : (r : Result Contents Reason) → ((q : Progress) (now : Contents) → refused_in d calls q now ≡ None → are_accepted d calls now ≡ true) → refused_by d deed (refused_in d calls) p r ≡ None → accepted_by d (are_accepted d calls) r ≡ true
  by (Ok now) more none = more (with_accepted (coming_of d (Execute deed)) p) now none
  by (Err reason) more none = absurd (some_none none)
none_refused d (Begin ∷ calls) p c none = none_refused d calls (with_accepted (coming_of d Begin) p) c none
none_refused d (Commit ∷ calls) p c none = none_refused d calls (with_accepted (coming_of d Commit) p) c none
none_refused d (Abort ∷ calls) p c none = none_refused d calls (with_accepted (coming_of d Abort) p) c none
none_refused d (Alone deeds room ∷ calls) p c none = none_refused d calls (with_accepted (coming_of d (Alone deeds room)) p) c none

module _ (d : Dialect) (way : Way) where
  -- with calls to come it awaits their end, or yields to the refusal of one
  either : (on : Bool) (calls : List Call) (p : Progress) (c : Contents) (sees : List Catalogue) (then_there : Contents) → (are_accepted d calls c ≡ true → way.awaits sees then_there)
      → ((refusal : Refusal) → refused_in d calls p c ≡ Some refusal → way.yields on refusal then_there) → IsUnderWay way
  either on calls p c sees then_there finished refused = by (refused_in d calls p c) refl where
    by : (o : Option Refusal) → refused_in d calls p c ≡ o → IsUnderWay way
    by None is = inr (inl (sees, then_there, finished (none_refused d calls p c is)))
    by (Some refusal) is = inr (inr (inl (on, refusal, then_there, refused refusal is)))

  pub known_under : (on : Bool) (calls : List Call) (p : Progress) (x : Both) → KnownIn d way on calls p x → IsUnderWay way
  known_under on [] p x known = inl (x.0, known)
  known_under on (call ∷ calls) p x known = either on (call ∷ calls) p x.1 (sights d (call ∷ calls) x.1) (went d (call ∷ calls) x).0 known.finished known.refused

  next_under : (refused : Option Refusal) (on : Bool) (calls : List Call) (p : Progress) (x : Both) → KnownNext d way refused on calls p x → IsUnderWay way
  next_under None on calls p x known = either on calls p x.1 (unseen d calls x.1) (went d calls x).0 known.finished known.refused
  next_under (Some refusal) on calls p x known = absurd known

  place_under : {Key : Type 0} (refused : Option Refusal) (on : Bool) (turns : Turns Key) (p : Progress) (x : Both) → Known d way refused (Inside [] on turns) p x → IsUnderWay way
  place_under None on turns p x known = inl (x.0, known)
  place_under (Some refusal) on turns p x known = inr (inr (inr (inl (Some refusal, known))))

pub if_full : (P : Type 0) (e : End) → P → IfFull e P
if_full P (end.Full used next) holds = holds
if_full P end.Done holds = tt
if_full P (end.Refused refusal) holds = tt
if_full P (end.Locked lock) holds = tt
if_full P end.Disk holds = tt
if_full P end.OutOfMemory holds = tt

-- a fault is met where no call of a turn is in hand any more
still : (f : Option StoreFault) (hand new : Hand) (way later : Way) → hand.phase ≡ phase.Inside → hand.calls ≢ [] → AfterFault f hand way → AfterFault f new later
still None hand new way later inside left met = tt
still (Some why) hand new way later inside left met = absurd (left (met.0 inside))

pub back_under : (f : Option StoreFault) (hand new : Hand) (way : Way) → new.calls ≡ [] → AfterFault f hand way → AfterFault f new way
back_under None hand new way none met = tt
back_under (Some why) hand new way none met = ((λ inside. none), met.1)

module _ {Key Told : Type 0} (d : Dialect) (m : Meaning Key) (stamp : Stamp) (number : ℕ) where
  -- a call of the turn in hand went on

  pub stays_on : (before after : Standing Key Told) (x : State) → before.hand.phase ≡ phase.Inside → before.hand.calls ≢ [] → after.fault ≡ before.fault → StaysShown d m stamp number before after x step.Going
  stays_on before after x inside left same start s told is met =
      subst (λ f. AfterFault f after.hand (after.way d stamp told)) (sym same) (still before.fault before.hand after.hand (before.way d stamp told) (after.way d stamp told) inside left met)

  -- or met a fault

  met_under : (before : Standing Key Told) (x start : State) (s : Session) (told : Told) → before.hand.phase ≡ phase.Inside → before.hand.calls ≢ [] → IsShown d m stamp number before x start s told → IsAfterFault d stamp before told → IsUnderWay (before.way d stamp told)
  met_under before x start s told inside left is met = by before.fault refl met where
    by : (f : Option StoreFault) → before.fault ≡ f → AfterFault f before.hand (before.way d stamp told) → IsUnderWay (before.way d stamp told)
    by None none met = next_under d (before.way d stamp told) before.refused before.hand.goes_on (calls_left before.hand) before.progress (both_of s) (is.known none)
    by (Some why) some met = absurd (left (met.0 inside))

  pub stays_failed : (before after : Standing Key Told) (why : StoreFault) (x : State) (result : Step) → before.hand.phase ≡ phase.Inside → before.hand.calls ≢ []
      → ((told : Told) → IsUnderWay (before.way d stamp told) → IsUnderWay (after.way d stamp told)) → FailsTo why after.hand.phase after.fault result → StaysShown d m stamp number before after x result
  stays_failed before after why x result inside left same fails start s told is met = by (is_disk why) fails where
    under : IsUnderWay (after.way d stamp told)
    under = same told (met_under before x start s told inside left is met)

    by : (b : Bool) → FailsAs b why after.hand.phase after.fault result → StaysAs d stamp after told result
    by true ended = subst (StaysAs d stamp after told) (sym ended.0) tt
    by false fell = subst (StaysAs d stamp after told) (sym fell.0) (subst (λ f. AfterFault f after.hand (after.way d stamp told)) (sym fell.2) ((λ there. absurd (not_inside (sym fell.1 ∙ there))), under))

  pub stays_lacked : (before after : Standing Key Told) (why : StoreFault) (x : State) → before.hand.phase ≡ phase.Inside → before.hand.calls ≢ []
      → ((told : Told) → IsUnderWay (before.way d stamp told) → IsUnderWay (after.way d stamp told)) → after.hand.calls ≡ [] → after.fault ≡ Some why → StaysShown d m stamp number before after x step.Going
  stays_lacked before after why x inside left same none fault start s told is met =
      subst (λ f. AfterFault f after.hand (after.way d stamp told)) (sym fault) ((λ there. none), same told (met_under before x start s told inside left is met))

  -- the source has looked at what the next call sees
  pub stays_shown : (before after : Standing Key Told) (turns : Turns Key) (way : Dialect → Stamp → Told → Way) (coming : Coming) (x : State) (result : Step)
      → before.hand.phase ≡ phase.Inside → before.hand.calls ≢ [] → turns ≡ before.turns → coming ≡ first_coming d (calls_left before.hand)
      → (IsShowing number x → (told : Told) → Shows d coming (seen number x) (before.way d stamp told) (way d stamp told))
      → StaysShown d m stamp number (seen_by d m stamp number before way turns) after x result → Stays d m stamp number before after x result
  stays_shown before after turns way coming x result inside left same is_coming shows stays start s told is held met =
      (subst (λ t. StaysShown d m stamp number (seen_by d m stamp number before way t) after x result) same stays) start s told
      (shown_there d m stamp number before way coming x start s told inside left is_coming shows is)
      (still before.fault before.hand before.hand (before.way d stamp told) (way d stamp told) inside left met)

  -- it no longer holds the lock
  pub lost_stays : (x : State) (before : Standing Key Told) → IsBetween before.hand → IfSome (lock_of x.dialect x.committed) (λ lock. Holds stamp lock holding.Lost) → (start : State) (s : Session) (told : Told)
      → IsThere d m stamp number before x start s told → (IsBetween before.hand → IsHeld stamp s.committed.lock) → ⊥
  lost_stays x before there lost start s told is held = at_place d m stamp number x (λ lock. Holds stamp lock holding.Lost) start s (place before) lost is.at (held there)

  -- at the last call

  ended_under : (after : Standing Key Told) (told : Told) (f : Option StoreFault) (r : Option Refusal) (x y : State) (result : Step) → EndsFor d m stamp number f r x result y → IsUnderWay (after.way d stamp told) → StaysAs d stamp after told result
  ended_under after told f r x y step.Going ends under = absurd ends
  ended_under after told f r x y (step.Ended e) ends under = if_full (IsUnderWay (after.way d stamp told)) e under

  module _ (before : Standing Key Told) (x : State) (inside : before.hand.phase ≡ phase.Inside) (none : before.hand.calls ≡ []) (shut : is_open number x.begun ≡ false) where
    pub stays_entered : (enters : enters_turns before.fault before.refused ≡ true) (hand : Hand) (turns : Turns Key) (way : Dialect → Stamp → Told → Way) (p : Progress) (after : Standing Key Told) (result : Step)
        → p ≡ no_progress → Enters d m stamp before.turns (before.way d stamp) (seen number x) (entered.Turn hand) turns (way d stamp)
        → Stays d m stamp number (entered_by d m stamp number before x inside none shut hand turns way p) after x result → Stays d m stamp number before after x result
    stays_entered enters hand turns way p after result begins is_entered stays start s told is held met =
        stays start s told (entered_there d m stamp number before x inside none shut enters hand turns way p begins is_entered start s told is) (λ there. absurd (is_entered.0.left there.1))
        (healthy before.fault before.refused enters hand (way d stamp told)) where
          healthy : (f : Option StoreFault) (r : Option Refusal) → enters_turns f r ≡ true → (hand : Hand) (way : Way) → AfterFault f hand way
          healthy None r goes hand way = tt
          healthy (Some why) r goes hand way = absurd (not_true goes)

    -- there is no other turn
    pub stays_ended : (after : Standing Key Told) (y : State) (result : Step) → enters_turns before.fault before.refused ≡ true → (turns : Turns Key) (way : Told → Way)
        → Enters d m stamp before.turns (before.way d stamp) (seen number x) entered.NoTurn turns way → ((told : Told) → IsUnderWay (way told) → IsUnderWay (after.way d stamp told))
        → (f : Option StoreFault) (r : Option Refusal) → EndsFor d m stamp number f r x result y → Stays d m stamp number before after x result
    stays_ended after y result enters turns way is_entered same f r ends start s told is held met =
        let at_seen = is_entered s.committed (seen_stands d m stamp number x shut start s is.at.stands is.at.dialect) told (knows_them d m stamp number before x inside none shut start s told is enters) in
        ended_under after told f r x y result ends (same told (inr (inr (inr (inl (None, at_seen.1))))))

    -- there is no memory for it
    pub stays_short : (after : Standing Key Told) (y : State) (result : Step) → enters_turns before.fault before.refused ≡ true → (turns : Turns Key) (way : Told → Way)
        → Enters d m stamp before.turns (before.way d stamp) (seen number x) entered.Lack turns way → ((told : Told) → IsUnderWay (way told) → IsUnderWay (after.way d stamp told))
        → (f : Option StoreFault) (r : Option Refusal) → EndsFor d m stamp number f r x result y → Stays d m stamp number before after x result
    stays_short after y result enters turns way is_entered same f r ends start s told is held met =
        ended_under after told f r x y result ends
        (same told (is_entered s.committed (seen_stands d m stamp number x shut start s is.at.stands is.at.dialect) told (knows_them d m stamp number before x inside none shut start s told is enters)))

    -- none is entered any more
    pub stays_stopped : (after : Standing Key Told) (y : State) (result : Step) → ((told : Told) → IsUnderWay (before.way d stamp told) → IsUnderWay (after.way d stamp told))
        → (f : Option StoreFault) (r : Option Refusal) → EndsFor d m stamp number f r x result y → Stays d m stamp number before after x result
    stays_stopped after y result same f r ends start s told is held met = ended_under after told f r x y result ends (same told (by before.fault refl met)) where
      by : (g : Option StoreFault) → before.fault ≡ g → AfterFault g before.hand (before.way d stamp told) → IsUnderWay (before.way d stamp told)
      by None healthy met =
          place_under d (before.way d stamp told) before.refused before.hand.goes_on (turns_of before) before.progress (both_of s)
          (contents_known d m stamp number before x inside none shut start s told is healthy)
      by (Some why) some met = met.1
