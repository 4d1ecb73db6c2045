use Rattle.lq_run.proofs.Names.{by_none}
use Rattle.lq_run.proofs.holding.held_since.Goals as goal

pub returns-in-None : goal.returns-in-None
returns-in-None c = by_none c.args.stamp.now c.args.lock.now c.in-None.is
