use Rattle.lq_alone.proofs.Leaving.{one_is_full}
use Rattle.lq_alone.proofs.laws.one_is_full.Goals as goal

pub returns : goal.returns
returns g c = one_is_full _
