use Rattle.lq_yaml.proofs.Files.{trees}
use Rattle.lq_yaml.proofs.laws.laid_out.Goals as goal

pub returns : goal.returns
returns c = trees
