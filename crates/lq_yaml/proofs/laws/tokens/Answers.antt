use Rattle.lq_yaml.proofs.LineForms.{files, one_meaning}
use Rattle.lq_yaml.proofs.laws.tokens.Goals as goal

pub returns-clause-found : goal.returns-clause-found
returns-clause-found c = files

pub returns-clause-one : goal.returns-clause-one
returns-clause-one c = one_meaning
