use Rattle.lq_alone.proofs.Plainly.{one_steps}
use Rattle.lq_alone.proofs.laws.one_steps.Goals as goal

pub returns : goal.returns
returns g c = one_steps _
