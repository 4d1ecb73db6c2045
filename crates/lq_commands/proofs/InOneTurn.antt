-- A run of one turn that is in hand, and whether it is refused.
use Rattle.std.proofs.Common.{ap, refl, subst, sym, ◌∙◌}
use Rattle.std.specs.Prelude.{Bool, Err, List, None, Ok, Option, Result, [], false, true, ℕ, ◌∷◌, ◌≡◌}
use Rattle.lq_base.specs.declared.dialect.Dialect.{Dialect}
use Rattle.lq_base.specs.declared.reason.Reason.{Reason}
use Rattle.lq_beside.specs.Replays.{calls_fit}
use Rattle.lq_hand.specs.Way.{coming_of, no_progress, with_accepted, Way, refused_by, refused_in}
use Rattle.lq_hand.specs.Hand.{calls_left, hand_place, place_of}
use Rattle.lq_hand.specs.declared.hand.Phase.TheVariants as phase
use Rattle.lq_hand.specs.declared.progress.Progress.{Progress}
use Rattle.lq_run.proofs.Scripts.{script_inside}
use Rattle.lq_run.specs.Commands.{HasDatabase, KnowsContents, SomeMayRun, TellsAll, both_on, script}
use Rattle.lq_run.specs.Stands.{no_changes}
use Rattle.lq_run.specs.Steps.{KnownIn, Standing, TellsAs, enters_turns, place}
use Rattle.lq_run.specs.declared.runner.End.{End}
use Rattle.lq_store.specs.Journal.{State}
use Rattle.lq_track.specs.Database.{Database}
use Rattle.lq_turns.specs.Deed.{Contents, contents_of, contents_after}
use Rattle.lq_turns.specs.Session.{accepted_by, are_accepted, session_on}
use Rattle.lq_turns.specs.Rest.{Inside, NoMore, if_goes_on}
use Rattle.lq_turns.specs.Script.{with_lock}
use Rattle.lq_turns.specs.Set.{Meaning}
use Rattle.lq_turns.specs.Turn.{made}
use Rattle.lq_turns.specs.declared.call.Call.{Call}
use Rattle.lq_turns.specs.declared.call.Call.TheVariants.{Abort, Alone, Begin, Commit, Execute}
use Rattle.lq_turns.specs.declared.stamp.Stamp.{Stamp}
use Rattle.lq_turns.specs.declared.stop.Refusal.{Refusal}
use Rattle.lq_commands.proofs.Starts.{AllOn, may_run}
use Rattle.lq_commands.specs.Scripts.{one_way}

not_true : false ≡ true → ⊥
not_true h = Prim.cc

-- of calls that are all accepted none is refused
module _ (d : Dialect) where
  none_refused : (calls : List Call) (p : Progress) (c : Contents) → are_accepted d calls c ≡ true → refused_in d calls p c ≡ None
  none_refused [] p c all = refl
  none_refused (Execute deed ∷ calls) p c all = by (contents_after d deed c) (λ q now. none_refused calls q now) all where
    by : (r : Result Contents Reason) → ((q : Progress) (now : Contents) → are_accepted d calls now ≡ true → refused_in d calls q now ≡ None) → accepted_by d (are_accepted d calls) r ≡ true
        → refused_by d deed (refused_in d calls) p r ≡ None
    by (Ok now) more all = more (with_accepted (coming_of d (Execute deed)) p) now all
    by (Err reason) more all = absurd (not_true all)
  none_refused (Begin ∷ calls) p c all = none_refused calls (with_accepted (coming_of d Begin) p) c all
  none_refused (Commit ∷ calls) p c all = none_refused calls (with_accepted (coming_of d Commit) p) c all
  none_refused (Abort ∷ calls) p c all = none_refused calls (with_accepted (coming_of d Abort) p) c all
  none_refused (Alone deeds room ∷ calls) p c all = none_refused calls (with_accepted (coming_of d (Alone deeds room)) p) c all

  known_of : (database : Database) (calls : List Call) → KnownIn d (one_way (refused_in d calls no_progress (contents_of database))) false calls no_progress (both_on database)
  known_of database [] = refl
  known_of database (call ∷ calls) = record { finished = λ all. none_refused (call ∷ calls) no_progress (contents_of database) all; refused = λ refusal is. is }

-- with the turn in hand, and no other
module _ (d : Dialect) (stamp : Stamp) (r : Standing (Unit {0}) (Option Refusal)) (none : r.turns ≡ NoMore) (inside : r.hand.phase ≡ phase.Inside) (stops : r.hand.goes_on ≡ false) (progress : r.progress ≡ no_progress)
    (way_is : r.way ≡ (λ e st told. one_way told)) where
  turns_none : (b : Bool) → if_goes_on b r.turns ≡ NoMore
  turns_none true = none
  turns_none false = refl

  hand_is : place r ≡ Inside (calls_left r.hand) r.hand.goes_on NoMore
  hand_is = ap (place_of r.hand) (turns_none (enters_turns r.fault r.refused)) ∙ ap (λ q. hand_place q (calls_left r.hand) r.hand.goes_on NoMore) inside

  abbrev hand_script : Database → List Call
  hand_script database = with_lock stamp database (made d (calls_left r.hand) (contents_of database))

  abbrev refusal_on : Database → Option Refusal
  refusal_on database = refused_in d (calls_left r.hand) no_progress (contents_of database)

  in_hand : (database : Database) → script d no_changes stamp (place r) database ≡ hand_script database
  in_hand database = ap (λ p. script d no_changes stamp p database) hand_is ∙ script_inside d no_changes stamp database (calls_left r.hand) r.hand.goes_on

  known_hand : (database : Database) → KnowsContents d no_changes stamp r database (refusal_on database)
  known_hand database =
      subst (λ w. KnownIn d (w d stamp (refusal_on database)) r.hand.goes_on (calls_left r.hand) r.progress (both_on database)) (sym way_is)
      (subst (λ (b : Bool). KnownIn d (one_way (refusal_on database)) b (calls_left r.hand) r.progress (both_on database)) (sym stops)
      (subst (λ (p : Progress). KnownIn d (one_way (refusal_on database)) false (calls_left r.hand) p (both_on database)) (sym progress) (known_of d database (calls_left r.hand))))

  fits_there : (database : Database) → calls_fit d (hand_script database) (session_on database) ≡ true → calls_fit d (script d no_changes stamp (place r) database) (session_on database) ≡ true
  fits_there database fits = ap (λ calls. calls_fit d calls (session_on database)) (in_hand database) ∙ fits

  pub turn_may_run : (number : ℕ) (x : State) (database : Database) → HasDatabase d x database → calls_fit d (hand_script database) (session_on database) ≡ true → SomeMayRun d no_changes stamp number r x
  turn_may_run number x database has fits = may_run d no_changes stamp number r x database has (refusal_on database) (known_hand database) (fits_there database fits)

  pub hand_holds : (P : Dialect → List Call → Database → Type 0) (x : State) (database : Database) → HasDatabase d x database → calls_fit d (hand_script database) (session_on database) ≡ true → AllOn P d no_changes stamp r x
      → P d (hand_script database) database
  hand_holds P x database has fits all = subst (λ calls. P d calls database) (in_hand database) (all database (refusal_on database) has (known_hand database) (fits_there database fits))

  pub turn_tells : (x : State) (e : End) (database : Database) → HasDatabase d x database → calls_fit d (hand_script database) (session_on database) ≡ true → TellsAll d no_changes stamp r x e (λ f st told. one_way told)
      → TellsAs (one_way (refusal_on database)) e
  turn_tells x e database has fits tells = (tells database (refusal_on database) has (known_hand database) (fits_there database fits)).0

-- the same for a dialect and a stamp that are the same
module _ {Key Told : Type 0} (m : Meaning Key) (r : Standing Key Told) (e d : Dialect) (dialect_is : e ≡ d) (stamped stamp : Stamp) (stamp_is : stamped ≡ stamp) where
  pub tells_as : (x : State) (end : End) (way : Dialect → Stamp → Told → Way) → TellsAll e m stamped r x end way → TellsAll d m stamp r x end way
  tells_as x end way tells = subst (λ st. TellsAll d m st r x end way) stamp_is (subst (λ f. TellsAll f m stamped r x end way) dialect_is tells)
