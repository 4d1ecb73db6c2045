use Rattle.lq_base.proofs.MomentSpelled.{moment_of-spells}
use Rattle.lq_base.proofs.laws.moment_of_spells.Goals as goal

pub returns : goal.returns
returns c = moment_of-spells
