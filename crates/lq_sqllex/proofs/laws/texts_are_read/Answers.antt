use Rattle.lq_sqllex.proofs.QuotedText.{texts_read}
use Rattle.lq_sqllex.proofs.laws.texts_are_read.Goals as goal

pub returns : goal.returns
returns c = texts_read
