use Rattle.lq_base.proofs.KindSpelled.{kind_text-names}
use Rattle.lq_base.proofs.laws.kind_reads_back.Goals as goal

pub returns : goal.returns
returns c = kind_text-names
