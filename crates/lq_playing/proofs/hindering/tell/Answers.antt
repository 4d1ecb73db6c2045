use Rattle.std.proofs.Common.{ap}
use Rattle.lq_turns.specs.declared.answer.Answer.TheVariants.{Locked}
use Rattle.lq_playing.proofs.hindering.tell.Goals as goal

pub returns-in-Ok-clause-tells : goal.returns-in-Ok-clause-tells
returns-in-Ok-clause-tells c = ap (λ l. Locked l) c.in-Ok.ensures
