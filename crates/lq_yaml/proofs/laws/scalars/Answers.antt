use Rattle.lq_yaml.proofs.ScalarForms.{scalars}
use Rattle.lq_yaml.proofs.laws.scalars.Goals as goal

pub returns : goal.returns
returns c = scalars
