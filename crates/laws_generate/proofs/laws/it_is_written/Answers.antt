use Rattle.laws_generate.proofs.Ended.{is_written}
use Rattle.laws_generate.proofs.laws.it_is_written.Goals as goal

pub returns : goal.returns
returns c = is_written
