use Rattle.lq_yaml.proofs.Worked.{scalar_examples, line_examples}
use Rattle.lq_yaml.proofs.laws.examples.Goals as goal

pub returns-clause-scalars : goal.returns-clause-scalars
returns-clause-scalars c = scalar_examples

pub returns-clause-lines : goal.returns-clause-lines
returns-clause-lines c = line_examples
