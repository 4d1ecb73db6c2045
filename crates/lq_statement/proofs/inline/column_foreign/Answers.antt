use Rattle.lq_model.specs.SqlTable.{column_foreign}
use Rattle.lq_statement.proofs.inline.column_foreign.Goals as goal

pub returns-in-Some : goal.returns-in-Some
unfolding column_foreign
returns-in-Some c = rw c.in-Some.is c.foreign_to.ensures
