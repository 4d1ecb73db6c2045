use Rattle.lq_spelling.proofs.ServeLaws.{unquoted_words_serve}
use Rattle.lq_spelling.proofs.laws.unquoted_words_serve.Goals as goal

pub returns : goal.returns
returns c = unquoted_words_serve
