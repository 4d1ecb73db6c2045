use Rattle.laws_generate.proofs.Ended.{makes_again}
use Rattle.laws_generate.proofs.laws.it_makes_the_objects.Goals as goal

pub returns : goal.returns
returns c = λ d path author k may. makes_again d (c.queries_read_back.ensures d) author k may path
