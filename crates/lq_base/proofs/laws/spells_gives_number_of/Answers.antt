use Rattle.lq_base.proofs.NumberSpelled.{spells-number_of}
use Rattle.lq_base.proofs.laws.spells_gives_number_of.Goals as goal

pub returns : goal.returns
returns c = spells-number_of
