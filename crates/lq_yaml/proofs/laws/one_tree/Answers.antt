use Rattle.lq_yaml.proofs.Files.{one_tree}
use Rattle.lq_yaml.proofs.laws.one_tree.Goals as goal

pub returns : goal.returns
returns c = one_tree
