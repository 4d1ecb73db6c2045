use Rattle.lq_model.specs.SqlPart.{name}
use Rattle.lq_statement.proofs.constraint.foreign.Given as goal

abbrev pub ghost-enclosed : goal.ghost-enclosed
ghost-enclosed a = name
