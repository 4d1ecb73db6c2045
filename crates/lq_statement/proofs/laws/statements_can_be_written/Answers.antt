use Rattle.lq_statement.proofs.StatementMakes.{statements_can}
use Rattle.lq_statement.proofs.laws.statements_can_be_written.Goals as goal

pub returns : goal.returns
returns c = statements_can c.number_of_spells.ensures
