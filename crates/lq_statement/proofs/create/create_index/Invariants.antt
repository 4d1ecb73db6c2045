use Rattle.lq_model.specs.SqlPart.{name}
use Rattle.lq_statement.proofs.create.create_index.Given as goal

abbrev pub ghost-enclosed : goal.ghost-enclosed
ghost-enclosed a = name
