use Rattle.lq_sqllex.proofs.WholeText.{words_kept}
use Rattle.lq_sqllex.proofs.laws.pieces_have_words.Goals as goal

pub returns : goal.returns
returns c = words_kept
