use Rattle.lq_parse.proofs.CanWrite.{queries_can}
use Rattle.lq_parse.proofs.laws.queries_can_be_written.Goals as goal

pub returns : goal.returns
returns c = queries_can c.number_of_spells.ensures
