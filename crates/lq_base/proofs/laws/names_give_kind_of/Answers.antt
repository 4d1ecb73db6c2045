use Rattle.lq_base.proofs.KindSpelled.{names-kind_of}
use Rattle.lq_base.proofs.laws.names_give_kind_of.Goals as goal

pub returns : goal.returns
returns c = names-kind_of
