use Rattle.lq_parse.proofs.Meaning.{unequal_is_one_mark}
use Rattle.lq_parse.proofs.laws.unequal_is_one_mark.Goals as goal

pub returns : goal.returns
returns c = unequal_is_one_mark
