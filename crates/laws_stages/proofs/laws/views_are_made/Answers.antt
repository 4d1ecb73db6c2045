use Rattle.laws_stages.proofs.Ends.{views_run}
use Rattle.laws_stages.proofs.laws.views_are_made.Goals as goal

pub returns : goal.returns
returns c = λ d c sound free. views_run d c sound free
