use Rattle.lq_spelling.proofs.QuoteLaws.{may_be_left_out}
use Rattle.lq_spelling.proofs.laws.quotes_may_be_left_out.Goals as goal

pub returns : goal.returns
returns c = may_be_left_out
