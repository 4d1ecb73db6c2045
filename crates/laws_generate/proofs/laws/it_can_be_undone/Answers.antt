use Rattle.laws_generate.proofs.Ended.{can_be_undone}
use Rattle.laws_generate.proofs.laws.it_can_be_undone.Goals as goal

pub returns : goal.returns
returns c = λ d path author k may. can_be_undone d (c.queries_read_back.ensures d) author k may path
