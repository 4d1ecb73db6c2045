use Rattle.lq_commands.proofs.Stopped.{enters_stopping}
use Rattle.lq_commands.proofs.stopping.StoppingSource.enter.Goals as goal

pub returns-clause-enters : goal.returns-clause-enters
returns-clause-enters g c =
    enters_stopping c.args.dialect g.T.Source.meaning c.args.stamp.now g.T.Source.left g.T.Source.way c.args.self.now.source c.enter.new.self (g.K.Look.catalogue c.args.look.now) c.enter.result c.enter.ensures.enters
