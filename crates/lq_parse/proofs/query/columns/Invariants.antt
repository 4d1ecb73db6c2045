use Rattle.lq_model.specs.SqlPart.{name}
use Rattle.lq_parse.proofs.query.columns.Given as goal

abbrev pub ghost-separated : goal.ghost-separated
ghost-separated a = name
