use Rattle.lq_parse.proofs.Meaning.{blanks_change_nothing}
use Rattle.lq_parse.proofs.laws.blanks_change_nothing.Goals as goal

pub returns : goal.returns
returns c = blanks_change_nothing
