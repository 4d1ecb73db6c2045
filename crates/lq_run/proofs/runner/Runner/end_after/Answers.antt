use Rattle.std.proofs.Common.{ap, subst, sym}
use Rattle.lq_run.proofs.Losing.{bare_crash, ends_bare, ends_marked}
use Rattle.lq_run.specs.Steps.{last_end}
use Rattle.lq_run.proofs.Since.{leave_none}
use Rattle.std.specs.Prelude.{Some}
use Rattle.lq_run.proofs.Beside.{fault_stays}
use Rattle.lq_run.proofs.Stops.{fault_stops}
use Rattle.lq_run.specs.Beside.{StopsAs}
use Rattle.lq_run.specs.declared.runner.Step.TheVariants as step
use Rattle.lq_store.specs.Journal.{Keeps}
use Rattle.lq_run.proofs.runner.Runner.end_after.Goals as goal

pub returns-then-is_marked-clause-ends : goal.returns-then-is_marked-clause-ends
returns-then-is_marked-clause-ends g c = ends_marked c.args.self.now.dialect g.T.Source.meaning c.args.self.now.stamp c.args.session (g.S.Store.state c.args.store.now) c.args.fault c.args.self.now.refused c.end_of.result c.args.is_marked c.if-is_marked.true c.requires.lock c.end_of.ensures

pub returns-clause-ends : goal.returns-clause-ends
returns-clause-ends g c = ends_bare c.args.self.now.dialect g.T.Source.meaning c.args.self.now.stamp c.args.session (g.S.Store.state c.args.store.now) c.args.fault c.args.self.now.refused _ c.args.is_marked (g.S.Store.state c.close.new.store) c.close.result c.if-is_marked.false c.requires.lock (ap (λ f. last_end f c.args.self.now.refused) c.requires.fault) c.close.ensures.closes

pub returns-then-is_marked-clause-crash : goal.returns-then-is_marked-clause-crash
returns-then-is_marked-clause-crash g c = λ start s is stands fit. leave_none (g.S.Store.state c.args.store.now).entries _ (g.S.Store.crashes c.args.store.now)

pub returns-clause-crash : goal.returns-clause-crash
returns-clause-crash g c = bare_crash c.args.self.now.dialect c.args.self.now.stamp c.args.session (g.S.Store.state c.args.store.now) (g.S.Store.crashes c.args.store.now) (g.S.Store.crashes c.close.new.store) (Some c.args.fault) c.args.is_marked c.if-is_marked.false c.requires.lock c.close.ensures.crash

pub returns-then-is_marked-clause-beside : goal.returns-then-is_marked-clause-beside
returns-then-is_marked-clause-beside g c = fault_stays c.args.session (g.S.Store.state c.args.store.now) c.args.self.now.fault c.args.fault c.end_of.result c.requires.live c.requires.fault c.requires.disk c.end_of.ensures

pub returns-then-is_marked-clause-asks : goal.returns-then-is_marked-clause-asks
returns-then-is_marked-clause-asks g c = λ none live. c.requires.closed

pub returns-then-is_marked-clause-keeps : goal.returns-then-is_marked-clause-keeps
returns-then-is_marked-clause-keeps g c = leave_none (g.S.Store.state c.args.store.now).entries Keeps (g.S.Store.crashes c.args.store.now)

pub returns-then-is_marked-clause-stops : goal.returns-then-is_marked-clause-stops
returns-then-is_marked-clause-stops g c = λ before met. subst (λ e. StopsAs before (step.Ended e)) (sym c.end_of.ensures) (fault_stops c.args.fault before)
