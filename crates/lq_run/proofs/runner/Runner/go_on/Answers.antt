use Rattle.lq_run.proofs.Stepping.{next_crash}
use Rattle.lq_run.specs.Steps.{standing}
use Rattle.lq_run.proofs.runner.Runner.go_on.Goals as goal

pub returns-else-is_empty-clause-crash : goal.returns-else-is_empty-clause-crash
returns-else-is_empty-clause-crash g c = next_crash c.args.self.now.dialect g.T.Source.meaning c.args.self.now.stamp c.args.session (standing g.T.Source.left g.T.Source.way c.args.self.now) c.inside.new.self.fault (g.S.Store.state c.args.store.now) (g.S.Store.crashes c.args.store.now) (g.S.Store.crashes c.inside.new.store) c.inside.ensures.crash
