use Rattle.lq_playing.proofs.Told.{told_busy}
use Rattle.lq_playing.proofs.hindering.busy.Goals as goal

pub returns-in-Err : goal.returns-in-Err
returns-in-Err g c = told_busy c.args.session (g.S.Store.state c.args.store.now) c.in-Err.fault c.busy_with.result c.in-Err.ensures.alone c.busy_with.ensures
