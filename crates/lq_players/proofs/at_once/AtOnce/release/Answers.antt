use Rattle.lq_players.proofs.OneStepChecked.{release_checked}
use Rattle.lq_players.proofs.at_once.AtOnce.release.Goals as goal

pub returns : goal.returns
returns g c = λ stamp.
    release_checked c.args.dialect stamp c.args.self.now (g.K.Look.catalogue c.args.look.now) c.in_ok-lock.lock c.in_ok-lock.ensures c.requires c.in_ok-verdict.verdict c.in_ok-verdict.ensures c.freeing.result c.freeing.ensures
