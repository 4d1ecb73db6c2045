use Rattle.std.proofs.Common.{subst}
use Rattle.std.specs.Prelude.{Err}
use Rattle.lq_playing.specs.Answers.{Answers}
use Rattle.lq_playing.proofs.playing.Playing.fail.Goals as goal

pub returns-clause-answers : goal.returns-clause-answers
returns-clause-answers g c = subst (λ w. Answers (Err w) c.args.self.now.faulted c.finish.new.self.answer c.finish.new.self.faulted c.finish.result) c.fault_of.ensures c.finish.ensures.answers
