use Rattle.lq_run.proofs.Losing.{told_map}
use Rattle.lq_run.specs.Steps.{TellsLock}
use Rattle.lq_run.proofs.runner.locked.Goals as goal

pub returns-clause-tells : goal.returns-clause-tells
returns-clause-tells g c = told_map _ c.lock.result.now (λ lock. TellsLock lock c.tell.result) (c.lock.ensures c.requires.live) c.tell.ensures.tells
