use Rattle.std.proofs.Common.{ap, refl, ◌∙◌}
use Rattle.std.specs.Prelude.{None, Option, Some, option_map, ℕ, ◌≡◌}
use Rattle.lq_playing.specs.Answers.{answer_of}
use Rattle.lq_playing.specs.declared.came.Came.{Came}
use Rattle.lq_drills.specs.Drilled.{answer_code, came_code}
use Rattle.lq_turns.specs.declared.answer.Answer.{Answer}
use Rattle.lq_drills.proofs.drilling.code_of.Goals as goal

-- a code by the answer
by_answer : (o : Option Came) → option_map answer_code (option_map answer_of o) ≡ option_map came_code o
by_answer None = refl
by_answer (Some it) = refl

pub returns-in-Some : goal.returns-in-Some
returns-in-Some c = ap (λ (n : ℕ). Some n) c.answer_code.ensures ∙ ap (option_map answer_code) c.in-Some.ensures ∙ by_answer _

pub returns-in-None : goal.returns-in-None
returns-in-None c = ap (option_map answer_code) c.in-None.ensures ∙ by_answer _
