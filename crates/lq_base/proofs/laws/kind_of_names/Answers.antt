use Rattle.lq_base.proofs.KindSpelled.{kind_of-names}
use Rattle.lq_base.proofs.laws.kind_of_names.Goals as goal

pub returns : goal.returns
returns c = kind_of-names
