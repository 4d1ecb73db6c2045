use Rattle.lq_alone.proofs.Leaving.{one_frees}
use Rattle.lq_alone.proofs.laws.one_frees.Goals as goal

pub returns : goal.returns
returns g c = one_frees _
