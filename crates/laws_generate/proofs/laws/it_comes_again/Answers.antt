use Rattle.laws_generate.proofs.Ended.{comes_again}
use Rattle.laws_generate.proofs.laws.it_comes_again.Goals as goal

pub returns : goal.returns
returns c = λ d author k may signed text fits tree. comes_again d c.queries_read_back.ensures author k may signed text fits tree
