use Rattle.lq_alone.proofs.Leaving.{one_leaves}
use Rattle.lq_alone.proofs.laws.one_leaves.Goals as goal

pub returns : goal.returns
returns g c = one_leaves _
