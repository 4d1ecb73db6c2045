-- Commands whose names differ, of which none is a release-locks, begin one after another.
use Rattle.std.proofs.Common.{ap, refl, subst, sym, ◌∙◌}
use Rattle.std.proofs.lemmas.List.Elements.{All-get_or, All-head, All-tail}
use Rattle.std.proofs.lemmas.Option.{get_or_from_slice_get, slice_get_within}
use Rattle.std.specs.Option.{option_map}
use Rattle.std.specs.Prelude.{All, Bool, List, None, Some, [], false, not, slice_get, suc, true, ℕ, ◌++◌, ◌∷◌, ◌≡◌, ◌≢◌}
use Rattle.lq_base.specs.declared.command.Command.TheVariants.{Release}
use Rattle.lq_base.specs.declared.dialect.Dialect.{Dialect}
use Rattle.lq_players.specs.AnyCommand.{IsUnstarted, command_stands, BeginInTurn, HaveTasks, NoneReleases, works, NamesAreApart}
use Rattle.lq_players.specs.Reports.{report_of}
use Rattle.lq_players.specs.Tasks.{answer_by, refuses, stop_of}
use Rattle.lq_players.specs.declared.any_command.AnyCommand.{AnyCommand}
use Rattle.lq_drill.specs.Drill.{Begins, Each, IsNew, IsReady}
use Rattle.lq_any.specs.declared.any_change.AnyChange.{AnyChange}
use Rattle.lq_model.proofs.Lists.{and_left, and_right, and_true}
use Rattle.lq_playing.specs.Answers.{as_busy, as_locked, came, only}
use Rattle.lq_playing.specs.Checked.{Work}
use Rattle.lq_playing.specs.declared.came.Came.{Came}
use Rattle.lq_seen.specs.View.{any_meaning}
use Rattle.lq_store.specs.Journal.{State, is_open}
use Rattle.lq_track.specs.Database.{Database}
use Rattle.lq_turns.proofs.Jobs.{only_releases_are_early}
use Rattle.lq_turns.specs.Schedule.{StandsFor, Machine, all_moved, moved, start}
use Rattle.lq_turns.specs.Jobs.{Task}
use Rattle.lq_turns.specs.Serial.{is_early, none_early}

-- commands that are to start are ready for a drill
module _ (d : Dialect) (players : List AnyCommand) (all : All (IsUnstarted d) players) where
  unstarted_at : (place : ℕ) (player : AnyCommand) → slice_get players place ≡ Some player → IsUnstarted d player
  unstarted_at place player there = subst (IsUnstarted d) (get_or_from_slice_get players place player player there) (All-get_or (IsUnstarted d) players place player (slice_get_within players place player there) all)

  pub all_new : Each command_stands IsNew players
  all_new place player there = (unstarted_at place player there).new (suc place)

  pub all_ready : (x : State) → x.begun ≡ None → Each command_stands (IsReady d x) players
  all_ready x closed place player there = let waits = unstarted_at place player there in record {
    ready = waits.ready;
    dialect = waits.dialect;
    opens = ap (is_open (suc place)) closed ∙ sym (waits.new (suc place)).opens;
  }

-- a drill of them begins
pub begins_with : NamesAreApart → (x : State) (tasks : ℕ → Task AnyChange) (database : Database) (players : List AnyCommand) → StandsFor x.dialect x.committed database → HaveTasks x.dialect tasks players
    → Begins command_stands (works x.dialect tasks) x database players
begins_with names_apart x tasks database players stands have = record {
  jobs_are = λ place player there. sym (have.each place player there).job;
  apart = λ p q one two first second other lock own also.
      let a = have.each p one first in
      let b = have.each q two second in
      names_apart (tasks _).stamp (tasks _).stamp a.bare b.bare (have.differ p q one two first second other) lock (a.owns lock own) (b.owns lock also);
  stands_for = stands;
}

module _ (d : Dialect) (tasks : ℕ → Task AnyChange) (database : Database) where
  abbrev Runs : Type 0
  Runs = Machine Came as_locked as_busy

  abbrev jobs : ℕ → Work
  jobs = works d tasks

  abbrev first : Runs
  first = start Came as_locked as_busy database

  abbrev after : List ℕ → Runs → Runs
  after ns x = all_moved Came as_locked as_busy d jobs ns x

  abbrev early : ℕ → Runs → Bool
  early n x = is_early Came as_locked as_busy d jobs n x

  abbrev timely : List ℕ → Runs → Bool
  timely ns x = none_early Came as_locked as_busy d jobs ns x

  -- one step more

  after_more : (ns : List ℕ) (n : ℕ) (x : Runs) → after (ns ++ n ∷ []) x ≡ moved Came as_locked as_busy d jobs n (after ns x)
  after_more [] n x = refl
  after_more (k ∷ ns) n x = after_more ns n (moved Came as_locked as_busy d jobs k x)

  timely_more : (ns : List ℕ) (n : ℕ) (x : Runs) → timely ns x ≡ true → early n (after ns x) ≡ false → timely (ns ++ n ∷ []) x ≡ true
  timely_more [] n x all late = and_true (not (early n x)) true (ap not late) refl
  timely_more (k ∷ ns) n x all late =
      and_true (not (early k x)) _ (and_left (not (early k x)) _ all) (timely_more ns n (moved Came as_locked as_busy d jobs k x) (and_right (not (early k x)) _ all) late)

  never_early : (ns : List ℕ) (n : ℕ) → timely ns first ≡ true → (tasks n).command ≢ Release → early n (after ns first) ≡ false
  never_early ns n all other = by (early n (after ns first)) refl where
    by : (b : Bool) → early n (after ns first) ≡ b → b ≡ false
    by true is = absurd (other (only_releases_are_early Came any_meaning as_locked as_busy d (λ (it : Task AnyChange) (on : Database). option_map only (refuses d it on)) (λ (it : Task AnyChange) (on : Database). came (report_of false d it on) (answer_by (stop_of d it on))) tasks database ns n all is))
    by false is = refl

  all_timely : (ns rest : List ℕ) → timely ns first ≡ true → NoneReleases tasks rest → timely rest (after ns first) ≡ true
  all_timely ns [] all none = refl
  all_timely ns (n ∷ rest) all none =
      let late = never_early ns n all (All-head (λ k. (tasks k).command ≢ Release) n rest none) in
      let later = all_timely (ns ++ n ∷ []) rest (timely_more ns n first all late) (All-tail (λ k. (tasks k).command ≢ Release) n rest none) in
      and_true (not (early n (after ns first))) _ (ap not late) (subst (λ (x : Runs). timely rest x ≡ true) (after_more ns n first) later)

  -- none makes its first call while another still runs
  pub none_is_early : (steps : List ℕ) → NoneReleases tasks steps → BeginInTurn d tasks database steps
  none_is_early steps none = all_timely [] steps refl none
