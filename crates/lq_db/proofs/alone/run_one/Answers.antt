use Rattle.lq_db.proofs.Alones.{closes_last, ran_one, stopped_itself, stopped_within}
use Rattle.lq_db.proofs.alone.run_one.Goals as goal

pub returns-in-Ok-take_up : goal.returns-in-Ok-take_up
returns-in-Ok-take_up g c =
    ran_one g.P.SqlText.dialect c.args.dialect c.args.text.now.by c.args.text.now.text c.as_str.result.now c.as_str-in-Ok-run.result.now c.in-Ok.statement (g.E.Executor.held c.args.engine.now) (g.E.Executor.held c.run.new.self) c.args.running.now c.take_up.new.running _
    c.commits_itself-itself.result c.requires.sql c.as_str.ensures c.as_str-in-Ok-run.ensures c.requires.running c.in-Ok.ensures (g.met.P.SqlText.spelled _ _ c.in-Ok.ensures) c.commits_itself-itself.ensures c.in-Ok-run.ensures c.in-Ok-take_up.ensures

pub returns-in-Ok-close : goal.returns-in-Ok-close
returns-in-Ok-close g c =
    rw c.in-Err-Refused.field-0-is (
      stopped_itself g.P.SqlText.dialect c.args.dialect c.args.text.now.by c.args.text.now.text c.as_str.result.now c.in-Ok.statement (g.E.Executor.held c.args.engine.now) (g.E.Executor.held c.run.new.self) c.args.running.now c.close.new.running c.in-Err-Refused.reason
          c.commits_itself-itself.result c.requires.sql c.as_str.ensures c.requires.running c.in-Ok.ensures c.commits_itself-itself.ensures c.if-itself.true (rw c.in-Err-Refused.field-0-is at c.in-Err-Refused.ensures) c.in-Ok-close.ensures,
      closes_last c.args.dialect (g.E.Executor.held c.args.engine.now) c.args.running.now c.close.new.running c.requires.running c.in-Ok-close.ensures,
    )

pub returns-in-Err-Refused : goal.returns-in-Err-Refused
returns-in-Err-Refused g c =
    rw c.in-Err-Refused.field-0-is (
      stopped_within g.P.SqlText.dialect c.args.dialect c.args.text.now.by c.args.text.now.text c.as_str.result.now c.in-Ok.statement (g.E.Executor.held c.args.engine.now) (g.E.Executor.held c.run.new.self) (g.E.Executor.held c.rewind.new.engine) c.args.running.now c.in-Err-Refused.reason
          c.commits_itself-itself.result c.requires.sql c.as_str.ensures c.requires.running c.in-Ok.ensures c.commits_itself-itself.ensures c.if-itself.false (rw c.in-Err-Refused.field-0-is at c.in-Err-Refused.ensures) c.rewind.ensures,
      c.requires.running.last_is.in_journal,
    )
