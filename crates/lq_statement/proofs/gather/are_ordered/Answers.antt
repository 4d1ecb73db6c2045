use Rattle.lq_statement.proofs.Order.{ordered_is}
use Rattle.lq_statement.proofs.gather.are_ordered.Goals as goal

pub loop-rest-init : goal.loop-rest-init
loop-rest-init c = ordered_is c.args.items.now
