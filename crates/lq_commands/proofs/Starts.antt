-- A store that has a database stands for a session on it, so that a new runner may run there.
use Rattle.std.proofs.Common.{ap, refl, rules, subst, sym, ◌∙◌}
use Rattle.std.proofs.lemmas.List.{append-nil}
use Rattle.std.specs.Option.{option_map}
use Rattle.std.specs.Prelude.{List, None, Option, Some, [], false, true, ℕ, ◌++◌, ◌≡◌}
use Rattle.lq_base.specs.declared.dialect.Dialect.{Dialect}
use Rattle.lq_beside.specs.Replays.{calls_fit}
use Rattle.lq_hand.specs.Way.{Way}
use Rattle.lq_hand.specs.Hand.{calls_left, place_of}
use Rattle.lq_hand.specs.declared.hand.Hand.{Hand}
use Rattle.lq_model.specs.declared.fault.StoreFault.{StoreFault}
use Rattle.lq_run.proofs.Rooms.{no_entries}
use Rattle.lq_run.specs.Commands.{HasDatabase, KnowsContents, OnAll, SomeMayRun, TellsAll, both_on, script}
use Rattle.lq_run.specs.Stands.{IsBegun, Stands}
use Rattle.lq_run.specs.Steps.{KnownIn, Standing, enters_turns, no_turn, place, standing, turns_of, TellsTo}
use Rattle.lq_run.specs.declared.runner.End.{End}
use Rattle.lq_run.specs.declared.runner.Runner.{Runner}
use Rattle.lq_store.specs.Journal.{Entry, State}
use Rattle.lq_track.specs.Database.{Database}
use Rattle.lq_turns.specs.Deed.{contents_of}
use Rattle.lq_turns.specs.Schedule.{StandsFor}
use Rattle.lq_turns.specs.Rest.{Turns, between, if_goes_on}
use Rattle.lq_turns.specs.Session.{session_on}
use Rattle.lq_turns.specs.Set.{Meaning}
use Rattle.lq_turns.specs.Stops.{is_mark}
use Rattle.lq_turns.specs.declared.call.Call.{Call}
use Rattle.lq_turns.specs.declared.stamp.Stamp.{Stamp}
use Rattle.lq_turns.specs.declared.stop.Refusal.{Refusal}
use Rattle.lq_commands.specs.Scripts.{MayTurn, turns_script}

no_more : (o : Option (List Entry)) → o ≡ option_map (λ (entries : List Entry). entries ++ []) o
no_more None = refl
no_more (Some entries) = ap Some (sym (append-nil entries))

module _ {Key Told : Type 0} (d : Dialect) (m : Meaning Key) (stamp : Stamp) (number : ℕ) (r : Standing Key Told) (x : State) (database : Database) (has : HasDatabase d x database) where
  stands_there : Stands x number x (session_on database)
  stands_there = record {
    dialect = refl;
    limit = refl;
    live = has.live;
    committed = subst (λ e. StandsFor e x.committed database) (sym has.dialect) has.committed;
    begun = subst (IsBegun x.dialect number (session_on database)) (sym has.shut) (refl, refl, refl);
    entries = no_more x.entries;
    used = search rules;
    room = no_entries x.dialect x.limit x.used;
  }

  pub may_run : (told : Told) → KnowsContents d m stamp r database told → calls_fit d (script d m stamp (place r) database) (session_on database) ≡ true → SomeMayRun d m stamp number r x
  may_run told known fits = record { start = x; session = session_on database; told = told; is = record { dialect = has.dialect; stands = stands_there; shut = refl; known = known; fits = fits } }

-- of its calls, on every database on which a command may run
abbrev pub AllOn : {Key Told : Type 0} → (Dialect → List Call → Database → Type 0) → Dialect → Meaning Key → Stamp → Standing Key Told → State → Type 0
AllOn P d m stamp r x = OnAll d m stamp r x (λ database told. P d (script d m stamp (place r) database) database)

-- with no turn in hand
module _ {Key Told : Type 0} (d : Dialect) (m : Meaning Key) (stamp : Stamp) (r : Standing Key Told) (hand : r.hand ≡ no_turn) (fault : r.fault ≡ None) (refused : r.refused ≡ None) where
  turns_are : turns_of r ≡ r.turns
  turns_are = ap (λ (f : Option StoreFault). if_goes_on (enters_turns f r.refused) r.turns) fault ∙ ap (λ (f : Option Refusal). if_goes_on (enters_turns None f) r.turns) refused

  place_is : place r ≡ between r.turns
  place_is = ap (λ (h : Hand). place_of h (turns_of r)) hand ∙ ap between turns_are

  known_there : (database : Database) (told : Told) → (r.way d stamp told).knows (contents_of database) → KnowsContents d m stamp r database told
  known_there database told known = subst (λ (h : Hand). KnownIn d (r.way d stamp told) h.goes_on (calls_left h) r.progress (both_on database)) (sym hand) known

  script_is : (database : Database) → script d m stamp (place r) database ≡ turns_script d m stamp r.turns database
  script_is database = ap (λ p. script d m stamp p database) place_is

  fitting : (database : Database) (told : Told) → MayTurn d m stamp r.turns (r.way d stamp) database told → calls_fit d (script d m stamp (place r) database) (session_on database) ≡ true
  fitting database told may = ap (λ calls. calls_fit d calls (session_on database)) (script_is database) ∙ may.fits

  turns_may_run : (number : ℕ) (x : State) (database : Database) (told : Told) → HasDatabase d x database → MayTurn d m stamp r.turns (r.way d stamp) database told → SomeMayRun d m stamp number r x
  turns_may_run number x database told has may = may_run d m stamp number r x database has told (known_there database told may.known) (fitting database told may)

  turns_hold : (P : Dialect → List Call → Database → Type 0) (x : State) (database : Database) (told : Told) → HasDatabase d x database → MayTurn d m stamp r.turns (r.way d stamp) database told → AllOn P d m stamp r x
      → P d (turns_script d m stamp r.turns database) database
  turns_hold P x database told has may all = subst (λ calls. P d calls database) (script_is database) (all database told has (known_there database told may.known) (fitting database told may))

  turns_tell : (x : State) (e : End) (way : Dialect → Stamp → Told → Way) (database : Database) (told : Told) → HasDatabase d x database → MayTurn d m stamp r.turns (r.way d stamp) database told → TellsAll d m stamp r x e way
      → TellsTo (way d stamp told) e
  turns_tell x e way database told has may tells = tells database told has (known_there database told may.known) (fitting database told may)

-- a runner that is new
module _ {Key Told T : Type 0} (m : Meaning Key) (left : T → Turns Key) (way : T → Dialect → Stamp → Told → Way) (runner : Runner T) (d : Dialect) (stamp : Stamp) (source : T)
    (dialect_is : runner.dialect ≡ d) (stamp_is : runner.stamp ≡ stamp) (source_is : runner.source ≡ source) (hand : runner.hand ≡ no_turn) (fault : runner.fault ≡ None) (refused : runner.refused ≡ None)
    (x : State) (database : Database) (told : Told) (has : HasDatabase d x database) (may : MayTurn d m stamp (left source) (way source d stamp) database told) where
  abbrev r : Standing Key Told
  r = standing left way runner

  may_there : MayTurn d m stamp (left runner.source) (way runner.source d stamp) database told
  may_there = subst (λ s. MayTurn d m stamp (left s) (way s d stamp) database told) (sym source_is) may

  pub new_may_run : (number : ℕ) → SomeMayRun runner.dialect m runner.stamp number r x
  new_may_run number =
      subst (λ e. SomeMayRun e m runner.stamp number r x) (sym dialect_is) (subst (λ st. SomeMayRun d m st number r x) (sym stamp_is) (turns_may_run d m stamp r hand fault refused number x database told has may_there))

  pub new_holds : (P : Dialect → List Call → Database → Type 0) → AllOn P runner.dialect m runner.stamp r x → P d (turns_script d m stamp (left source) database) database
  new_holds P all =
      subst (λ s. P d (turns_script d m stamp (left s) database) database) source_is
      (turns_hold d m stamp r hand fault refused P x database told has may_there (subst (λ st. AllOn P d m st r x) stamp_is (subst (λ f. AllOn P f m runner.stamp r x) dialect_is all)))

  pub new_tells : (e : End) (after : Dialect → Stamp → Told → Way) → TellsAll runner.dialect m runner.stamp r x e after → TellsTo (after d stamp told) e
  new_tells e after tells =
      turns_tell d m stamp r hand fault refused x e after database told has may_there (subst (λ st. TellsAll d m st r x e after) stamp_is (subst (λ f. TellsAll f m runner.stamp r x e after) dialect_is tells))

-- the same for a dialect and a stamp that are the same
module _ {Key Told : Type 0} (m : Meaning Key) (r : Standing Key Told) (e d : Dialect) (dialect_is : e ≡ d) (stamped stamp : Stamp) (stamp_is : stamped ≡ stamp) where
  pub may_so : (number : ℕ) (x : State) → SomeMayRun d m stamp number r x → SomeMayRun e m stamped number r x
  may_so number x may = subst (λ f. SomeMayRun f m stamped number r x) (sym dialect_is) (subst (λ st. SomeMayRun d m st number r x) (sym stamp_is) may)

  pub holds_so : (P : Dialect → List Call → Database → Type 0) (x : State) → AllOn P e m stamped r x → AllOn P d m stamp r x
  holds_so P x all = subst (λ st. AllOn P d m st r x) stamp_is (subst (λ f. AllOn P f m stamped r x) dialect_is all)

pub name_so : (stamped stamp : Stamp) → stamped ≡ stamp → is_mark stamp.who ≡ false → is_mark stamped.who ≡ false
name_so stamped stamp same name = subst (λ (st : Stamp). is_mark st.who ≡ false) (sym same) name
