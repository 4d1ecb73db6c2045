use Rattle.std.proofs.Common.{ap, refl, subst, sym}
use Rattle.std.specs.Prelude.{Err, Ok, Some, true}
use Rattle.lq_playing.specs.Answers.{Answers}
use Rattle.lq_playing.proofs.playing.Playing.finish.Goals as goal

pub returns-in-Ok-clause-answers : goal.returns-in-Ok-clause-answers
returns-in-Ok-clause-answers g c = subst (λ r. Answers r c.args.self.now.faulted (Some c.in-Ok.answer) c.args.self.now.faulted (Ok tt)) (sym c.in-Ok.is) (refl, refl, refl)

pub returns-in-Err-clause-answers : goal.returns-in-Err-clause-answers
returns-in-Err-clause-answers g c = subst (λ r. Answers r c.args.self.now.faulted (Some c.failure_of.result) true (Err c.in-Err.fault)) (sym c.in-Err.is) (ap (λ a. Some a) c.failure_of.ensures, refl, refl)
