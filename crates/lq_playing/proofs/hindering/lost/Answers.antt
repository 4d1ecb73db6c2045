use Rattle.lq_run.proofs.Losing.{told_map}
use Rattle.lq_playing.specs.Under.{TellsLost}
use Rattle.lq_playing.proofs.hindering.lost.Goals as goal

pub returns-clause-tells : goal.returns-clause-tells
returns-clause-tells g c = told_map _ c.lock.result.now (λ lock. TellsLost lock c.tell.result) (c.lock.ensures c.requires.live) c.tell.ensures.tells
