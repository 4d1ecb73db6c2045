use Rattle.lq_base.proofs.NumberSpelled.{number_of-spells}
use Rattle.lq_base.proofs.laws.number_of_spells.Goals as goal

pub returns : goal.returns
returns c = number_of-spells
