use Rattle.lq_yaml.proofs.ContentForms.{contents}
use Rattle.lq_yaml.proofs.laws.contents.Goals as goal

pub returns : goal.returns
returns c = contents
