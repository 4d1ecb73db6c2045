use Rattle.std.proofs.Common.{◌∙◌, ap, sym}
use Rattle.lq_db.specs.Db.{disk_in, engine_in, state}
use Rattle.lq_db.proofs.Commits.{is_busy, seen_is}
use Rattle.lq_db.proofs.db.DbStore.look.Goals as goal

pub returns-in-Ok-clause-seen : goal.returns-in-Ok-clause-seen
returns-in-Ok-clause-seen g c =
    let is = c.requires.valid.lives c.requires.live in
    ap g.E.Look.catalogue c.in-Ok.ensures.engine
    ∙ (g.met.E.Executor.looks c.args.self.now.engine ∙ sym (seen_is _ (g.E.Executor.held c.args.self.now.engine) _ _ c.args.session is.is_held.begun_is c.in-Ok.ensures.alone))

pub returns-in-Err-clause-seen : goal.returns-in-Err-clause-seen
returns-in-Err-clause-seen g c = is_busy c.args.session (state (g.D.Disk.told (disk_in c.args.self.now)) (g.E.Executor.held (engine_in c.args.self.now)) c.args.self.now) c.in-Err.fault c.in-Err.ensures.alone

pub returns-in-Err-clause-alone : goal.returns-in-Err-clause-alone
returns-in-Err-clause-alone g c = is_busy c.args.session (state (g.D.Disk.told (disk_in c.args.self.now)) (g.E.Executor.held (engine_in c.args.self.now)) c.args.self.now) c.in-Err.fault c.in-Err.ensures.alone
