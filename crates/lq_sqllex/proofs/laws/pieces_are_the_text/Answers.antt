use Rattle.lq_sqllex.proofs.WholeText.{pieces_whole}
use Rattle.lq_sqllex.proofs.laws.pieces_are_the_text.Goals as goal

pub returns : goal.returns
returns c = pieces_whole
