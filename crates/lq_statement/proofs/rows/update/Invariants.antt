use Rattle.lq_model.specs.SqlRows.{assignment}
use Rattle.lq_statement.proofs.rows.update.Given as goal

abbrev pub ghost-separated : goal.ghost-separated
ghost-separated a = assignment
