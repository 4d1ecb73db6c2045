use Rattle.lq_base.proofs.MomentLemmas.{moment_of-moment_text}
use Rattle.lq_base.proofs.MomentSpelled.{moment_of-spells}
use Rattle.lq_base.proofs.laws.moment_reads_back.Goals as goal

pub returns : goal.returns
returns c = λ ms is. moment_of-spells _ _ (moment_of-moment_text ms is)
