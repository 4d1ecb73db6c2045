use Rattle.lq_spelling.proofs.ServeLaws.{query_words_serve}
use Rattle.lq_spelling.proofs.laws.query_words_serve.Goals as goal

pub returns : goal.returns
returns c = query_words_serve
