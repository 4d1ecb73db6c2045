use Rattle.lq_alone.proofs.Course.{one_stands}
use Rattle.lq_alone.proofs.laws.one_stands.Goals as goal

pub returns : goal.returns
returns g c = one_stands _
