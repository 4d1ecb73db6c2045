use Rattle.lq_alone.proofs.Plainly.{one_ends}
use Rattle.lq_alone.proofs.laws.one_ends.Goals as goal

pub returns : goal.returns
returns g c = one_ends _
