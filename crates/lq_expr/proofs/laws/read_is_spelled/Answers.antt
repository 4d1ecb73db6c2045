use Rattle.lq_expr.proofs.ReadLemmas.{spelled}
use Rattle.lq_expr.proofs.laws.read_is_spelled.Goals as goal

pub returns : goal.returns
returns c = spelled
