use Rattle.lq_model.proofs.DefaultNames.{default_named}
use Rattle.lq_model.proofs.default_name.default_names_are_names.Goals as goal

pub returns : goal.returns
returns c = default_named
