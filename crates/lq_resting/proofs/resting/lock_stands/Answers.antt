use Rattle.lq_run.proofs.Losing.{told_map}
use Rattle.lq_run.specs.Stands.{Holds}
use Rattle.lq_resting.proofs.resting.lock_stands.Goals as goal

pub returns : goal.returns
returns g c = told_map _ c.lock.result.now (λ lock. Holds c.args.stamp.now lock c.lock_held.result) (c.lock.ensures c.requires.live) c.lock_held.ensures
