use Rattle.lq_parse.proofs.Meaning.{spellings_change_nothing}
use Rattle.lq_parse.proofs.laws.spellings_change_nothing.Goals as goal

pub returns : goal.returns
returns c = spellings_change_nothing
