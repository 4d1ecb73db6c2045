use Rattle.lq_expr.proofs.SpelledLemmas.{read_commas}
use Rattle.lq_expr.proofs.laws.spelled_is_read.Goals as goal

pub returns : goal.returns
returns c = read_commas
