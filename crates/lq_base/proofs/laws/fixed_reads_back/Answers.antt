use Rattle.lq_base.proofs.NumberPrinted.{number_of-fixed_text}
use Rattle.lq_base.proofs.NumberSpelled.{number_of-spells}
use Rattle.lq_base.proofs.laws.fixed_reads_back.Goals as goal

pub returns : goal.returns
returns c = λ units scale few some more. number_of-spells _ _ (number_of-fixed_text units scale few some more)
