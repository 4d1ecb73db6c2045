use Rattle.std.proofs.Common.{ap}
use Rattle.lq_turns.specs.declared.answer.Answer.TheVariants.{Locked}
use Rattle.lq_playing.proofs.calls.held.Goals as goal

pub returns-in-Ok : goal.returns-in-Ok
returns-in-Ok c = ap (λ l. Locked l) c.in-Ok.ensures
