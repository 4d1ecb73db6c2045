use Rattle.lq_players.proofs.SyncPlanned.{stays_read, sync_checked}
use Rattle.lq_players.proofs.syncing.SyncingChecks.check.Goals as goal

pub returns-in-Ok-clause-checked : goal.returns-in-Ok-clause-checked
returns-in-Ok-clause-checked g c =
    sync_checked c.args.dialect c.args.stamp.now c.args.self.now (g.K.Look.catalogue c.args.look.now) c.requires.moment c.requires.reads c.in-Ok.plan c.in-Ok.ensures c.follow.new.self c.follow.ensures.planned c.follow.result c.follow.ensures.verdict

pub returns-in-Ok-clause-reads : goal.returns-in-Ok-clause-reads
returns-in-Ok-clause-reads g c =
    stays_read c.args.dialect c.args.stamp.now c.args.self.now (g.K.Look.catalogue c.args.look.now) c.requires.moment c.requires.reads c.in-Ok.plan c.follow.new.self c.follow.ensures.planned
