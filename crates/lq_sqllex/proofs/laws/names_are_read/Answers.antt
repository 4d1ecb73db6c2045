use Rattle.lq_sqllex.proofs.QuotedText.{names_read}
use Rattle.lq_sqllex.proofs.laws.names_are_read.Goals as goal

pub returns : goal.returns
returns c = names_read
