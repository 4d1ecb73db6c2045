use Rattle.lq_parse.proofs.Meaning.{count_in_any_case}
use Rattle.lq_parse.proofs.laws.count_in_any_case.Goals as goal

pub returns : goal.returns
returns c = count_in_any_case
