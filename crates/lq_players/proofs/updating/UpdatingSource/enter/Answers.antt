use Rattle.lq_players.proofs.UpdateMakes.{enters_none, enters_so, turns_for}
use Rattle.lq_players.proofs.updating.UpdatingSource.enter.Goals as goal

pub enter-requires-clause-reads : goal.enter-requires-clause-reads
enter-requires-clause-reads g c = turns_for c.args.dialect c.args.self.now c.in-Some.source c.in-Some.is c.requires.reads

pub returns-in-Some-clause-enters : goal.returns-in-Some-clause-enters
returns-in-Some-clause-enters g c = enters_so c.args.dialect c.args.stamp.now c.args.self.now.turns c.in-Some.source c.enter.new.self c.in-Some.is (g.K.Look.catalogue c.args.look.now) c.enter.result c.enter.ensures.enters

pub returns-in-Some-clause-reads : goal.returns-in-Some-clause-reads
returns-in-Some-clause-reads g c = record { asked = c.requires.reads.asked; turns = c.enter.ensures.reads }

pub returns-in-None-clause-enters : goal.returns-in-None-clause-enters
returns-in-None-clause-enters g c = enters_none c.args.dialect c.args.stamp.now c.args.self.now.turns c.in-None.is (g.K.Look.catalogue c.args.look.now)
