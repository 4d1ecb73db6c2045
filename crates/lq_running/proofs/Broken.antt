-- A command whose calls are broken off ends as one that met want of memory.
use Rattle.std.proofs.Common.{ap, inl, inr, subst, sym, ◌∙◌}
use Rattle.std.proofs.lemmas.List.{append-nil}
use Rattle.std.specs.Option.{option_map}
use Rattle.std.specs.Prelude.{Bool, List, None, Option, Some, [], false, refl, true, ℕ, ◌&&◌, ◌++◌, ◌∷◌, ◌≡◌}
use Rattle.lq_base.specs.declared.dialect.Dialect.{Dialect}
use Rattle.lq_hand.specs.Hand.{IsReady, calls_left, hand_place, place_of}
use Rattle.lq_hand.specs.Way.{IsUnderWay, Way}
use Rattle.lq_hand.specs.declared.hand.Hand.{Hand}
use Rattle.lq_hand.specs.declared.hand.Phase.{Phase}
use Rattle.lq_hand.specs.declared.hand.Phase.TheVariants as phase
use Rattle.lq_hand.specs.declared.progress.Progress.{Progress}
use Rattle.lq_model.specs.declared.caller.Room.TheVariants.{Ordinary, Release}
use Rattle.lq_model.specs.declared.fault.StoreFault.{StoreFault}
use Rattle.lq_model.specs.declared.fault.StoreFault.TheVariants as fault
use Rattle.lq_resting.proofs.Asked.{asks_is}
use Rattle.lq_resting.specs.Asking.{asks_open}
use Rattle.lq_run.proofs.Ending.{ends, left_after, opened_is, takes_back, tells}
use Rattle.lq_run.proofs.Grows.{calls_grow}
use Rattle.lq_run.proofs.RunCrashes.{step_crash}
use Rattle.lq_run.proofs.Since.{leave_from, leave_then}
use Rattle.lq_run.proofs.Stepping.{lacks, no_turns}
use Rattle.lq_run.proofs.UnderWay.{known_under}
use Rattle.lq_run.specs.Beside.{Asks}
use Rattle.lq_run.specs.Crashing.{CrashesStep, LeftAlone, LeftInRun}
use Rattle.lq_run.specs.Ends.{CameFrom, EndsAs, IsBefore, IsRunning, Reaches, disk_failed}
use Rattle.lq_run.specs.Moves.{IsAt}
use Rattle.lq_run.specs.Stands.{entries_of}
use Rattle.lq_run.specs.Steps.{AfterFault, IsAfterFault, Known, Standing, Stays, Steps, StepsAs, TellsTo, is_over, no_turn, place, turns_of}
use Rattle.lq_run.specs.declared.runner.End.{End}
use Rattle.lq_run.specs.declared.runner.Step.TheVariants as step
use Rattle.lq_running.specs.Breaking.{TakenBack}
use Rattle.lq_store.specs.Journal.{Crashes, CrashesLeave, Entry, State, is_open}
use Rattle.lq_turns.specs.Rest.{NoMore, Turns, between, both_of, rest}
use Rattle.lq_turns.specs.Script.{closing}
use Rattle.lq_turns.specs.Session.{Both, Session, called, room_of}
use Rattle.lq_turns.specs.Set.{Meaning}
use Rattle.lq_turns.specs.declared.call.Call.{Call}
use Rattle.lq_turns.specs.declared.call.Call.TheVariants.{Abort}
use Rattle.lq_turns.specs.declared.stamp.Stamp.{Stamp}
use Rattle.lq_turns.specs.declared.stop.Refusal.{Refusal}

not_true : false ≡ true → ⊥
not_true h = Prim.cc

no_memory : {used more : ℕ} → fault.OutOfMemory ≡ fault.Full used more → ⊥
no_memory h = Prim.cc

same_some : {a b : StoreFault} → (let o : Option StoreFault = Some a in o) ≡ Some b → a ≡ b
same_some h = Prim.cc

some_none : {why : StoreFault} → (let o : Option StoreFault = Some why in o) ≡ None → ⊥
some_none h = Prim.cc

head_is : {c k : Call} {cs ks : List Call} → c ∷ cs ≡ k ∷ ks → c ≡ k
head_is h = Prim.cc

tail_is : {c k : Call} {cs ks : List Call} → c ∷ cs ≡ k ∷ ks → cs ≡ ks
tail_is h = Prim.cc

rooms_differ : Ordinary ≡ Release → ⊥
rooms_differ h = Prim.cc

-- where no call is made
pub none_made : (d : Dialect) (s : Session) → CameFrom d s s
none_made d s = record { calls = []; is = refl }

pub none_before : (s : Session) → IsBefore s s
none_before s = record { more = []; entries = sym (append-nil s.entries) }

-- a source that a command knows is on its way
known_way : {Key : Type 0} (d : Dialect) (way : Way) (refused : Option Refusal) (at : Phase) (calls : List Call) (goes_on : Bool) (turns : Turns Key) (p : Progress) (x : Both) → is_over at ≡ false
    → Known d way refused (hand_place at calls goes_on turns) p x → IsUnderWay way
known_way d way None phase.Inside calls goes_on turns p x more known = known_under d way goes_on calls p x known
known_way d way None phase.GivingUp calls goes_on turns p x more known = inl (x.0, known)
known_way d way None phase.Over calls goes_on turns p x more known = absurd (not_true (sym more))
known_way d way (Some refusal) phase.Inside [] goes_on turns p x more known = inr (inr (inr (inl (Some refusal, known))))
known_way d way (Some refusal) phase.Inside (call ∷ calls) goes_on turns p x more known = absurd known
known_way d way (Some refusal) phase.GivingUp calls goes_on turns p x more known = inr (inr (inr (inl (Some refusal, known))))
known_way d way (Some refusal) phase.Over calls goes_on turns p x more known = absurd (not_true (sym more))

module _ {Key Told : Type 0} (d : Dialect) (m : Meaning Key) (stamp : Stamp) (number : ℕ) (before : Standing Key Told) (told : Told) (start : State) (s : Session) (x : State) (is : IsRunning d m stamp number before x start s told) where
  asks : Asks d before.hand.phase (calls_left before.hand) s.is_open
  asks = by before.hand.phase is.there.at.ready where
    by : (at : Phase) → IsReady d s.is_open (hand_place at (calls_left before.hand) before.hand.goes_on (turns_of before)) → Asks d at (calls_left before.hand) s.is_open
    by phase.Inside ready = ready
    by phase.GivingUp ready = ready
    by phase.Over ready = ready

  asked : s.is_open ≡ asks_open before.hand
  asked = asks_is d before.hand.phase (calls_left before.hand) s.is_open asks

  -- its turn asks for what is open
  pub opened_as : is_open number x.begun ≡ asks_open before.hand
  opened_as = opened_is d m stamp number start x s is.there.at.stands ∙ asked

  under : is_over before.hand.phase ≡ false → IsAfterFault d stamp before told → IsUnderWay (before.way d stamp told)
  under more met = by before.fault refl met where
    by : (f : Option StoreFault) → before.fault ≡ f → AfterFault f before.hand (before.way d stamp told) → IsUnderWay (before.way d stamp told)
    by None healthy met = known_way d (before.way d stamp told) before.refused before.hand.phase (calls_left before.hand) before.hand.goes_on (turns_of before) before.progress (both_of s) more (is.there.known healthy)
    by (Some why) some met = met.1

  -- once what is open is taken back only the last call is to come
  module _ (after : Standing Key Told) (y : State) (hand : after.hand ≡ no_turn) (lacked : after.fault ≡ Some fault.OutOfMemory) (back : TakenBack d number (asks_open before.hand) x y) where
    ended : place after ≡ between NoMore
    ended = ap (λ (h : Hand). place_of h (turns_of after)) hand ∙ ap (λ t. between t) (no_turns fault.OutOfMemory after.refused after.turns after.fault lacked)

    left : (t : Session) → rest d m stamp (place after) (both_of t) ≡ closing ∷ []
    left t = ap (λ p. rest d m stamp p (both_of t)) ended

    -- a source stays on its way
    pub under_after : ((d : Dialect) (stamp : Stamp) (told : Told) → after.way d stamp told ≡ before.way d stamp told) → is_over before.hand.phase ≡ false → IsAfterFault d stamp before told → IsAfterFault d stamp after told
    under_after same more met =
        subst (λ f. AfterFault f after.hand (after.way d stamp told)) (sym lacked)
        ((λ inside. ap (λ (h : Hand). h.calls) hand), subst IsUnderWay (sym (same d stamp told)) (under more met))

    module _ (first last : Session) (came : CameFrom d first s) (way : IsBefore s last) where
      pub reached : Reaches d m stamp number after y start first last told
      reached = by (asks_open before.hand) asked back where
        by : (b : Bool) → s.is_open ≡ b → TakenBack d number b x y → Reaches d m stamp number after y start first last told
        by true opened aborts = (takes_back d m stamp number before after told start first last s x y (record {
          opened = opened;
          fault = lacked;
          ends_turns = ended;
          at = subst (λ q. IsAt d m stamp number q y start (called d Abort s)) (sym ended) (record {
            dialect = is.there.at.dialect;
            stands = aborts start s is.there.at.dialect is.there.at.stands;
            ready = refl;
            fits = ap (λ b. (b && true) && true) is.there.at.row.0;
            row = (is.there.at.row.0, is.there.at.row.0);
          });
        }) came is way).0
        by false shut same = record {
          session = s;
          came = came;
          is = record {
            there = record {
              at = subst (λ q. IsAt d m stamp number q y start s) (sym ended) (subst (λ z. IsAt d m stamp number (between NoMore) z start s) (sym same) (lacks d m stamp number (place before) x start s is.there.at shut));
              known = λ healthy. absurd (some_none (sym lacked ∙ healthy));
            };
            committed = is.committed;
            seen = is.seen;
            keeps = record { front = []; is = left s; holds = tt };
            disk = ap disk_failed lacked;
          };
          way = inr (fault.OutOfMemory, lacked, inl (left s), way);
        }

      shut : reached.session.is_open ≡ false
      shut = subst (λ p. IsReady d reached.session.is_open p) ended reached.is.there.at.ready

      -- the step after it is the last
      pub no_other : (next : Standing Key Told) (z : State) → is_over next.hand.phase ≡ false → Steps d m stamp number after next y step.Going z → ⊥
      no_other next z more steps = by (steps start reached.session told reached.is.there (λ there. reached.is.committed)) where
        by : StepsAs d m stamp number after next told start reached.session y step.Going z → ⊥
        by (inl on) = left_after d m stamp number next (both_of on.goes.after) more (tail_is (sym on.goes.went.next ∙ left reached.session))
        by (inr (inl fell)) = rooms_differ (sym fell.meets.by ∙ ap room_of (head_is (sym fell.meets.next ∙ left reached.session)))
        by (inr (inr taken)) = not_true (sym shut ∙ taken.opened)

      pub ends_off : (next : Standing Key Told) (z : State) (e : End) → Steps d m stamp number after next y (step.Ended e) z → (met : Option StoreFault) → EndsAs d m stamp number start first last true met e z
      ends_off next z e steps met = ends d m stamp number after told start first last y z reached met (λ used next same. absurd (no_memory (same_some (sym lacked ∙ same)))) next e steps

      pub tells_off : (next : Standing Key Told) (z : State) (e : End) → Steps d m stamp number after next y (step.Ended e) z → Stays d m stamp number after next y (step.Ended e) → IsAfterFault d stamp after told → TellsTo (next.way d stamp told) e
      tells_off next z e steps stays met = (tells d m stamp number after told start first last y z reached next e steps, stays start reached.session told reached.is.there (λ there. reached.is.committed) met)

      -- nothing is written by it
      alone : (there found : List Entry) → LeftAlone (there ++ entries_of d s.entries) found → LeftInRun d stamp first last there found
      alone there found same =
          let gone : IsBefore first s = subst (IsBefore first) (sym came.is) (calls_grow d came.calls first) in
          record { written = s.entries; since = (gone.more, gone.entries); by = inl (way.more, way.entries); is = same }

      pub crash_off : (met : Option StoreFault) (a b c : Crashes) → CrashesLeave x.entries LeftAlone a b → CrashesStep d m stamp number after met y b c → CrashesLeave start.entries (LeftInRun d stamp first last) a c
      crash_off met a b c taken crash =
          leave_then start.entries (LeftInRun d stamp first last) a b c
          (leave_from x.entries start.entries (entries_of d s.entries) LeftAlone (LeftInRun d stamp first last) a b
          (subst (λ e. x.entries ≡ option_map (λ entries. entries ++ entries_of e s.entries) start.entries) is.there.at.dialect is.there.at.stands.entries) alone taken)
          (step_crash d m stamp number after told start first last y reached met b c crash)
