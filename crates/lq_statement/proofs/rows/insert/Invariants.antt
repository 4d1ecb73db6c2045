use Rattle.lq_model.specs.SqlPart.{literal}
use Rattle.lq_statement.proofs.rows.insert.Given as goal

abbrev pub ghost-enclosed : goal.ghost-enclosed
ghost-enclosed a = literal
