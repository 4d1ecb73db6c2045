-- Two runners over one database.
use Rattle.std.specs.Prelude.{List, None, [], codes, map, pos, refl, suc, zero, ℕ, ◌∷◌, ◌≡◌}
use Rattle.lq_base.specs.Value.{into_kind}
use Rattle.lq_base.specs.declared.dialect.Dialect.TheVariants.{Postgresql}
use Rattle.lq_base.specs.declared.tracking.Lock.{Lock}
use Rattle.lq_base.specs.declared.tracking.Tracked.{Tracked}
use Rattle.lq_model.specs.Plan.{decide}
use Rattle.lq_track.specs.Lock.{taken}
use Rattle.lq_turns.specs.Jobs.{Task, job_of}
use Rattle.lq_turns.specs.Schedule.{Job, Machine, all_moved, start}
use Rattle.lq_turns.specs.declared.answer.Answer.{Answer}
use Rattle.lq_turns.specs.declared.answer.Answer.TheVariants.{Busy, Done, Locked}
use Rattle.lq_base.specs.declared.command.Command.{Command}
use Rattle.lq_base.specs.declared.command.Command.TheVariants.{Release, Update}
use Rattle.lq_turns.proofs.Examples.Given.{Given, changelog, changeset, made_on, makes, meaning, nothing}

-- update of one changeset that makes a table: six calls
abbrev task : List ℕ → Command → Task Given
task who command = record { command = command; changelog = changelog (changeset (codes "1") (makes (codes "t") ∷ []) ∷ []); stamp = record { who = who; reading = 1000 } }

-- runners 1 and 2 update, runner 3 frees the lock
abbrev tasks : ℕ → Task Given
tasks n = elim n [
  | zero ↦ task (codes "ci") Release
  | suc k ↦ elim k [
    | zero ↦ task (codes "ci#1") Update
    | suc i ↦ elim i [
      | zero ↦ task (codes "ci#2") Update
      | suc j ↦ task (codes "ci#3") Release
    ]
  ]
]

abbrev jobs : ℕ → Job Answer Locked Busy
jobs n = job_of Answer Locked Busy Postgresql meaning (λ task database. None) (λ task database. Done) (tasks n)

abbrev run : List ℕ → Machine Answer Locked Busy
run schedule = all_moved Answer Locked Busy Postgresql jobs schedule (start Answer Locked Busy (made_on nothing))

-- the lock of the first
abbrev its_lock : Lock
its_lock = taken (pos 1000) (codes "ci#1")

-- the second finds the lock held, while the first goes on
pub second_is_locked : (run (1 ∷ 2 ∷ 1 ∷ 1 ∷ 1 ∷ 1 ∷ 1 ∷ [])).answers ≡ (1, Done) ∷ (2, Locked its_lock) ∷ []
unfolding decide into_kind
second_is_locked = refl

-- after the last call of the first it has nothing left to do
pub one_after_another : (run (1 ∷ 1 ∷ 1 ∷ 1 ∷ 1 ∷ 1 ∷ 2 ∷ [])).answers ≡ (2, Done) ∷ (1, Done) ∷ []
unfolding decide into_kind
one_after_another = refl

-- the lock is not freed while a transaction is open
pub release_is_busy : (run (1 ∷ 1 ∷ 3 ∷ [])).answers ≡ (3, Busy 1) ∷ []
unfolding decide into_kind
release_is_busy = refl

-- but between two turns it is, and the first finds that it lost it
pub first_is_robbed : (run (1 ∷ 3 ∷ 1 ∷ [])).answers ≡ (1, Locked (made_on nothing).lock) ∷ (3, Done) ∷ []
unfolding decide into_kind
first_is_robbed = refl

pub nothing_ran : map (λ (r : Tracked). r.id) (run (1 ∷ 3 ∷ 1 ∷ [])).committed.rows ≡ []
unfolding decide into_kind
nothing_ran = refl
