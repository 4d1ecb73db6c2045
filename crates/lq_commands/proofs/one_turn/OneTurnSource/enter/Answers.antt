use Rattle.std.proofs.Common.{refl}
use Rattle.lq_commands.proofs.one_turn.OneTurnSource.enter.Goals as goal

pub returns-clause-enters : goal.returns-clause-enters
returns-clause-enters g c = λ database stands told knows. (refl, knows)
