use Rattle.lq_sqltree.proofs.Worked.{examples}
use Rattle.lq_sqltree.proofs.laws.examples.Goals as goal

pub returns : goal.returns
returns c = examples
