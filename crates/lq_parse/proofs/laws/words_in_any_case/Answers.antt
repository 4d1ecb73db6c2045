use Rattle.lq_parse.proofs.Meaning.{words_in_any_case}
use Rattle.lq_parse.proofs.laws.words_in_any_case.Goals as goal

pub returns : goal.returns
returns c = words_in_any_case
