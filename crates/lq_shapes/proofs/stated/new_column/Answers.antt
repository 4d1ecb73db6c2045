use Rattle.lq_shapes.proofs.StatedLemmas.{without_default}
use Rattle.lq_shapes.proofs.stated.new_column.Goals as goal

pub returns-in-None : goal.returns-in-None
returns-in-None c = without_default c.args.def.now c.in_ok-name.name c.in_ok-name.ensures c.in-None.is
