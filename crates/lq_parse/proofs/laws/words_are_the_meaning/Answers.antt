use Rattle.lq_parse.proofs.Meaning.{words_are_the_meaning}
use Rattle.lq_parse.proofs.laws.words_are_the_meaning.Goals as goal

pub returns : goal.returns
returns c = words_are_the_meaning
