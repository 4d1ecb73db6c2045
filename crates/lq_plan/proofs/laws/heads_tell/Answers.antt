use Rattle.lq_plan.proofs.Telling.{heads_tell}
use Rattle.lq_plan.proofs.laws.heads_tell.Goals as goal

pub returns : goal.returns
returns g c = heads_tell _
