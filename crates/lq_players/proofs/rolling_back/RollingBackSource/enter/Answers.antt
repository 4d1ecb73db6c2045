use Rattle.lq_players.proofs.BackSource.{enters_none, enters_on, source_read, still_read}
use Rattle.lq_players.proofs.rolling_back.RollingBackSource.enter.Goals as goal

pub enter-requires-clause-reads : goal.enter-requires-clause-reads
enter-requires-clause-reads g c = source_read c.args.self.now c.in-Some.turns c.in-Some.turns c.in-Some.is c.args.dialect c.requires.reads

pub returns-in-Some-clause-enters : goal.returns-in-Some-clause-enters
returns-in-Some-clause-enters g c =
    enters_on c.args.self.now c.in-Some.turns c.enter.new.self c.in-Some.is c.args.dialect c.args.stamp.now (g.K.Look.catalogue c.args.look.now) c.enter.result c.enter.ensures.enters

pub returns-in-Some-clause-reads : goal.returns-in-Some-clause-reads
returns-in-Some-clause-reads g c = still_read c.args.self.now c.in-Some.turns c.enter.new.self c.in-Some.is c.args.dialect c.requires.reads c.enter.ensures.reads

pub returns-in-None-clause-enters : goal.returns-in-None-clause-enters
returns-in-None-clause-enters g c = enters_none c.args.self.now c.in-None.is c.args.dialect c.args.stamp.now (g.K.Look.catalogue c.args.look.now)
