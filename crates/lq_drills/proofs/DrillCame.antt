-- To what machine the steps of a drill lead, told by which commands met faults.
use Rattle.std.proofs.Common.{inl, inr, refl}
use Rattle.std.specs.Prelude.{List, None, Option, Some, [], false, if◌then◌else◌, is_none, is_some, not, true, ℕ, ◌&&◌, ◌∷◌, ◌≡◌}
use Rattle.lq_base.specs.declared.command.Command.TheVariants.{Release, Rollback, Status, Sync, Tag, Update, Validate}
use Rattle.lq_base.specs.declared.command.Command.{Command}
use Rattle.lq_base.specs.declared.dialect.Dialect.{Dialect}
use Rattle.lq_drill.specs.Faults.{Comes, FallsFirst, Steps}
use Rattle.lq_any.specs.declared.any_change.AnyChange.{AnyChange}
use Rattle.lq_model.proofs.Lists.{and_left, and_right}
use Rattle.lq_playing.specs.Answers.{as_busy, as_failed, as_locked}
use Rattle.lq_playing.specs.declared.came.Came.{Came}
use Rattle.lq_players.specs.AnyCommand.{works}
use Rattle.lq_seen.specs.View.{any_meaning}
use Rattle.lq_turns.specs.Jobs.{Task, needs_lock, script_of}
use Rattle.lq_turns.specs.Schedule.{has_answered, has_begun}
use Rattle.lq_turns.specs.Serial.{is_early, open_by, unless_called, unless_open, unless_refused}
use Rattle.lq_drills.specs.Drilled.{Commands}

true_false : true ≡ false → ⊥
true_false h = Prim.cc

-- who met a fault may be told otherwise
module _ (d : Dialect) (tasks : ℕ → Task AnyChange) where
  pub steps_met : (met said : Type 0) → (met → said) → (n : ℕ) (x z : Commands) → Steps as_failed d (works d tasks) met n x z → Steps as_failed d (works d tasks) said n x z
  steps_met met said tell n x z (inl is) = inl is
  steps_met met said tell n x z (inr falls) = inr (tell falls.0, falls.1)

  pub comes_met : (met said : ℕ → Type 0) → ((n : ℕ) → met n → said n) → (steps : List ℕ) (x z : Commands) → Comes as_failed d (works d tasks) met steps x z → Comes as_failed d (works d tasks) said steps x z
  comes_met met said tell [] x z is = is
  comes_met met said tell (n ∷ steps) x z came = (came.0, (came.1.0, steps_met (met n) (said n) (tell n) n x came.1.0 came.1.1, comes_met met said tell steps came.1.0 z came.1.2))

  pub falls_met : (met said : ℕ → Type 0) → ((n : ℕ) → met n → said n) → (steps : List ℕ) (x z : Commands) → FallsFirst as_failed d (works d tasks) met steps x z → FallsFirst as_failed d (works d tasks) said steps x z
  falls_met met said tell steps x z it = record {
    front = it.front;
    next = it.next;
    later = it.later;
    is = it.is;
    has_met = tell it.next it.has_met;
    given_up = it.given_up;
    falls = it.falls;
    goes_on = comes_met met said tell it.later it.given_up z it.goes_on;
  }

-- One that makes its first call while another still runs, and does not need the lock, is a release-locks.
module _ (d : Dialect) (tasks : ℕ → Task AnyChange) (n : ℕ) (x : Commands) where
  -- what it answers at once where it has this command
  abbrev at_with : Command → Option Came
  at_with command =
      if needs_lock command && x.committed.lock.locked
      then Some (as_locked x.committed.lock)
      else unless_open Came as_locked as_busy d (works d tasks) (open_by Came as_locked as_busy d (works d tasks) x.holder) (unless_refused Came as_locked as_busy d (works d tasks) ((works d tasks n).refuses x.committed) (unless_called Came as_locked as_busy d (works d tasks) (script_of d any_meaning command (tasks n).stamp (tasks n).changelog x.committed) ((works d tasks n).answer x.committed)))

  -- one that makes no call answers at once
  looks : (o : Option ℕ) (r : Option Came) (its : Came) → {A : Type 0} → is_none (unless_open Came as_locked as_busy d (works d tasks) o (unless_refused Came as_locked as_busy d (works d tasks) r (Some its))) ≡ true → A
  looks (Some k) r its none = Prim.cc
  looks None (Some a) its none = Prim.cc
  looks None None its none = Prim.cc

  is_release : (command : Command) → needs_lock command ≡ false → is_none (at_with command) ≡ true → command ≡ Release
  is_release Release free none = refl
  is_release Validate free none = looks (open_by Came as_locked as_busy d (works d tasks) x.holder) ((works d tasks n).refuses x.committed) ((works d tasks n).answer x.committed) none
  is_release Status free none = looks (open_by Came as_locked as_busy d (works d tasks) x.holder) ((works d tasks n).refuses x.committed) ((works d tasks n).answer x.committed) none
  is_release Update free none = absurd (true_false free)
  is_release Sync free none = absurd (true_false free)
  is_release (Rollback target) free none = absurd (true_false free)
  is_release (Tag tag) free none = absurd (true_false free)

  pub early_release : is_early Came as_locked as_busy d (works d tasks) n x ≡ true → (works d tasks n).needs_lock ≡ false → (tasks n).command ≡ Release
  early_release early free =
      let first = and_left _ (is_some x.holder) early in
      let fresh = and_right (not (has_answered Came as_locked as_busy n x)) _ first in
      is_release (tasks n).command free (and_right (not (has_begun Came as_locked as_busy n x)) _ fresh)
