use Rattle.lq_model.specs.SqlPart.{name}
use Rattle.lq_statement.proofs.rows.stated_columns.Given as goal

abbrev pub ghost-enclosed : goal.ghost-enclosed
ghost-enclosed a = name
