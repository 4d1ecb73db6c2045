-- What a player that only looks answers.
use Rattle.std.specs.Prelude.{None, Option, Some, [], false, ℕ}
use Rattle.lq_drill.specs.Player.{Standing}
use Rattle.lq_turns.specs.Schedule.{Job}
use Rattle.tests_drill.specs.declared.looker.Looked.{Looked}
use Rattle.tests_drill.specs.declared.looker.Looked.TheVariants.{Alone, Busy, Locked}
use Rattle.tests_drill.specs.declared.looker.Looker.{Looker}

abbrev pub looked : Option ℕ → Looked
looked None = Alone
looked (Some number) = Busy number

-- it needs no lock, and makes no call
abbrev pub looks : Job Looked (λ lock. Locked) (λ number. Busy number)
looks = record { needs_lock = false; refuses = λ database. None; script = λ database. []; answer = λ database. Alone }

abbrev pub stands : Looker → Standing Looked (λ lock. Locked) (λ number. Busy number)
stands player = record { ready = Unit {0}; dialect = player.dialect; opens = false; faulted = false; owes = λ why. ⊥; job = looks; begun = false; is_at = λ holder. ⊥; owns = λ lock. ⊥; answer = player.answer }
