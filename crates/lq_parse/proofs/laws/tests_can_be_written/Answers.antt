use Rattle.lq_parse.proofs.CanWrite.{tests_can}
use Rattle.lq_parse.proofs.laws.tests_can_be_written.Goals as goal

pub returns : goal.returns
returns c = tests_can c.number_of_spells.ensures
