use Rattle.lq_mending.proofs.Marking as lemma
use Rattle.lq_mending.proofs.laws.calls_repair.Goals as goal

pub returns : goal.returns
returns c = lemma.calls_repair
