use Rattle.lq_loading.proofs.Raises.{ran}
use Rattle.lq_loading.proofs.loading.run_text.Goals as goal

pub returns-in-Ok-run : goal.returns-in-Ok-run
returns-in-Ok-run g c = ran _ c.args.text.now c.in-Ok.statement (g.E.Executor.held c.args.engine.now) (g.E.Executor.held c.run.new.self) _ c.requires c.in-Ok.ensures (g.met.P.SqlText.spelled _ _ c.in-Ok.ensures) c.in-Ok-run.ensures
