use Rattle.lq_parse.proofs.Meaning.{keywords_in_any_case}
use Rattle.lq_parse.proofs.laws.keywords_in_any_case.Goals as goal

pub returns : goal.returns
returns c = keywords_in_any_case
