use Rattle.lq_parse.proofs.Meaning.{reserved_words_in_any_case}
use Rattle.lq_parse.proofs.laws.reserved_words_in_any_case.Goals as goal

pub returns : goal.returns
returns c = reserved_words_in_any_case
