use Rattle.std.proofs.Common.{ap, sym}
use Rattle.lq_base.specs.declared.tracking.Lock.{Lock}
use Rattle.lq_commands.proofs.Seen.{lock_is}
use Rattle.lq_commands.proofs.release.is_held.Goals as goal

pub returns : goal.returns
returns g c = λ database has.
    sym (ap (λ (lock : Lock). lock.locked) (lock_is c.args.dialect (g.S.Store.state c.args.store.now) database has c.lock.result.now (c.lock.ensures c.requires.ready.has.live)))
