use Rattle.lq_stand.proofs.StaysApart.{statements_stay_apart}
use Rattle.lq_stand.proofs.laws.statements_stay_apart.Goals as goal

pub returns : goal.returns
returns c = statements_stay_apart
