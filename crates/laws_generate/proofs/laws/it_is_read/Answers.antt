use Rattle.laws_generate.proofs.Ended.{is_read}
use Rattle.laws_generate.proofs.laws.it_is_read.Goals as goal

pub returns : goal.returns
returns c = λ d author k may signed source path bytes file. is_read d (c.queries_read_back.ensures d) author k may signed source path bytes file
