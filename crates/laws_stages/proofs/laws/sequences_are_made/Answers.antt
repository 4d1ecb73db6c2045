use Rattle.laws_stages.proofs.Ends.{sequences_run}
use Rattle.laws_stages.proofs.laws.sequences_are_made.Goals as goal

pub returns : goal.returns
returns c = λ d c sound free. sequences_run d c sound free
