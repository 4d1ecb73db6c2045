use Rattle.lq_seen.proofs.Spelled.{statements_spelled}
use Rattle.lq_seen.proofs.laws.statements_are_spelled.Goals as goal

pub returns : goal.returns
returns c = statements_spelled
