use Rattle.lq_base.proofs.MomentSpelled.{spells-moment_of}
use Rattle.lq_base.proofs.laws.spells_gives_moment_of.Goals as goal

pub returns : goal.returns
returns c = spells-moment_of
