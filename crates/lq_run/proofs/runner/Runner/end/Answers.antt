use Rattle.std.proofs.Common.{subst, sym}
use Rattle.lq_run.proofs.Losing.{ends_none, healthy_crash}
use Rattle.lq_run.specs.Steps.{EndsFor}
use Rattle.lq_run.specs.Crashing.{CrashesClosing}
use Rattle.lq_run.proofs.runner.Runner.end.Goals as goal

pub returns-in-None-clause-ends : goal.returns-in-None-clause-ends
returns-in-None-clause-ends g c = ends_none c.args.self.now.dialect g.T.Source.meaning c.args.self.now.stamp c.args.session (g.S.Store.state c.args.store.now) c.args.self.now.fault c.args.self.now.refused (g.S.Store.state c.close.new.store) c.close.result c.in-None.is c.close.ensures.closes

pub returns-in-Some-clause-ends : goal.returns-in-Some-clause-ends
returns-in-Some-clause-ends g c = subst (λ f. EndsFor c.args.self.now.dialect g.T.Source.meaning c.args.self.now.stamp c.args.session f c.args.self.now.refused (g.S.Store.state c.args.store.now) c.end_after.result (g.S.Store.state c.end_after.new.store)) (sym c.in-Some.is) c.end_after.ensures.ends

pub returns-in-None-clause-crash : goal.returns-in-None-clause-crash
returns-in-None-clause-crash g c = healthy_crash c.args.self.now.dialect c.args.self.now.stamp c.args.session (g.S.Store.state c.args.store.now) (g.S.Store.crashes c.args.store.now) (g.S.Store.crashes c.close.new.store) c.args.self.now.fault c.in-None.is c.close.ensures.crash

pub returns-in-Some-clause-crash : goal.returns-in-Some-clause-crash
returns-in-Some-clause-crash g c = subst (λ f. CrashesClosing c.args.self.now.dialect c.args.self.now.stamp c.args.session f (g.S.Store.state c.args.store.now) (g.S.Store.crashes c.args.store.now) (g.S.Store.crashes c.end_after.new.store)) (sym c.in-Some.is) c.end_after.ensures.crash
