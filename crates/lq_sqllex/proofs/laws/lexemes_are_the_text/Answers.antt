use Rattle.lq_sqllex.proofs.WholeText.{lexemes_whole}
use Rattle.lq_sqllex.proofs.laws.lexemes_are_the_text.Goals as goal

pub returns : goal.returns
returns c = lexemes_whole
