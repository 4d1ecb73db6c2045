-- The calls of the commands of a drill fit, and keep a database clean.
use Rattle.std.proofs.Common.{arith, subst, sym}
use Rattle.std.proofs.lemmas.List.Elements.{All-head, All-tail}
use Rattle.std.specs.Int.{IsInRange}
use Rattle.std.specs.List.{All}
use Rattle.std.specs.Prelude.{List, None, Option, Some, [], length, slice_get, suc, zero, ℕ, ◌∷◌, ◌≡◌, ◌≤◌}
use Rattle.lq_back.specs.Laws.{TurnsBackAreSpelled}
use Rattle.lq_base.specs.declared.dialect.Dialect.{Dialect}
use Rattle.lq_commands.specs.Stamp.{numbered_stamp, clean}
use Rattle.lq_kinds.specs.ReadFor.{AreFor}
use Rattle.lq_any.specs.declared.any_change.AnyChange.{AnyChange}
use Rattle.lq_model.specs.Catalogue.{Catalogue}
use Rattle.lq_playing.specs.Answers.{as_busy, as_failed, as_locked}
use Rattle.lq_playing.specs.declared.came.Came.{Came}
use Rattle.lq_players.specs.AnyCommand.{works}
use Rattle.lq_seen.specs.View.{any_meaning}
use Rattle.lq_stand.proofs.StaysClean.{IsGood}
use Rattle.lq_track.specs.Database.{Database}
use Rattle.lq_turns.specs.Schedule.{StandsFor}
use Rattle.lq_turns.specs.Jobs.{Task, script_of}
use Rattle.lq_turns.specs.Session.{session_on}
use Rattle.lq_drills.proofs.DrillFits.{AreFit, KeepFit}
use Rattle.lq_drills.proofs.DrillPlayers.{there}
use Rattle.lq_drills.proofs.ScriptsFit.{script_fits}
use Rattle.lq_drills.specs.Drilled.{AreTasks, IsDrill, IsEntrant}
use Rattle.lq_jobs.specs.declared.entrants.Drilling.{Drilling}
use Rattle.lq_jobs.specs.declared.entrants.Entrant.{Entrant}

none_some : {A B : Type 0} {a : A} → (let o : Option A = None in o) ≡ Some a → B
none_some h = Prim.cc

some_is : {A : Type 0} {a b : A} → Some a ≡ Some b → a ≡ b
some_is h = Prim.cc

numbered_time : (who : List ℕ) (n reading : ℕ) → (numbered_stamp who n reading).reading ≤ 253402300799999
numbered_time who n reading = omega arith

module _ (spelled : TurnsBackAreSpelled) (d : Dialect) (who : List ℕ) (drill : Drilling) (readings : List ℕ) (tasks : ℕ → Task AnyChange) (own : AreTasks who drill.entrants readings tasks) (as_many : length readings ≡ length drill.entrants) (is : IsDrill d drill) where
  abbrev Fit : List ℕ → Type 0
  Fit steps = AreFit Came as_locked as_busy as_failed d (works d tasks) steps

  entrant_at : (entrants : List Entrant) → All (IsEntrant d) entrants → (place : ℕ) (e : Entrant) → slice_get entrants place ≡ Some e → IsEntrant d e
  entrant_at [] all place e at = none_some at
  entrant_at (first ∷ entrants) all zero e at = subst (IsEntrant d) (some_is at) (All-head (IsEntrant d) first entrants all)
  entrant_at (first ∷ entrants) all (suc place) e at = entrant_at entrants (All-tail (IsEntrant d) first entrants all) place e at

  one_fits : (n : ℕ) → IsInRange 1 (length drill.entrants) n → (x : Database) (c : Catalogue) → StandsFor d c x → IsGood d x → KeepFit d ((works d tasks n).script x) (session_on x)
  one_fits zero range x c stands good = absurd (omega (arith, range.0))
  one_fits (suc place) range x c stands good =
      let e = there drill.entrants place (omega (arith, range.1)) in
      let reading = there readings place (omega (arith, range.1, as_many)) in
      let stamp = numbered_stamp (clean who) (suc place) reading.0 in
      let entrant = entrant_at drill.entrants is.each place e.0 e.1 in
      let at = own place e.0 reading.0 e.1 reading.1 in
      subst (λ (t : Task AnyChange). KeepFit d (script_of d any_meaning t.command t.stamp t.changelog x) (session_on x)) (sym at)
      (script_fits spelled d e.0.asked.options e.0.asked.changelog (subst (λ k. AreFor k e.0.asked.changelog) entrant.dialect entrant.read) entrant.short stamp (numbered_time (clean who) (suc place) reading.0) x c stands good e.0.command entrant.tag)

  all_fit : (steps : List ℕ) → All (IsInRange 1 (length drill.entrants)) steps → Fit steps
  all_fit [] all = tt
  all_fit (n ∷ steps) all = (one_fits n (All-head (IsInRange 1 (length drill.entrants)) n steps all), all_fit steps (All-tail (IsInRange 1 (length drill.entrants)) n steps all))

  pub drill_fits : Fit drill.steps
  drill_fits = all_fit drill.steps is.steps
