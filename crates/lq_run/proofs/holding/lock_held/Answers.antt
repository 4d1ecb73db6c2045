use Rattle.lq_run.proofs.Names.{never_granted}
use Rattle.lq_run.proofs.holding.lock_held.Goals as goal

pub returns-in-None : goal.returns-in-None
returns-in-None c = never_granted c.args.stamp.now c.args.lock.now c.in-None.is
