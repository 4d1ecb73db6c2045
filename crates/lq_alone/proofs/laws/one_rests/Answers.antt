use Rattle.lq_alone.proofs.Plainly.{one_rests}
use Rattle.lq_alone.proofs.laws.one_rests.Goals as goal

pub returns : goal.returns
returns g c = one_rests _
