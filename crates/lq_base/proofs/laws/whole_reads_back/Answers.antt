use Rattle.lq_base.proofs.NumberPrinted.{number_of-whole_text}
use Rattle.lq_base.proofs.NumberSpelled.{number_of-spells}
use Rattle.lq_base.proofs.laws.whole_reads_back.Goals as goal

pub returns : goal.returns
returns c = λ n few. number_of-spells _ _ (number_of-whole_text n few)
