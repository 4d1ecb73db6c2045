use Rattle.std.proofs.Common.{subst, sym}
use Rattle.std.specs.Prelude.{Err, Ok}
use Rattle.lq_run.proofs.Stepping.{closes}
use Rattle.lq_run.specs.Steps.{Closes, last_end}
use Rattle.lq_run.proofs.Beside.{ended_beside, fault_beside}
use Rattle.lq_run.proofs.Stops.{fault_stops, last_stops}
use Rattle.lq_run.specs.Beside.{StopsAs}
use Rattle.lq_run.specs.declared.runner.Step.TheVariants as step
use Rattle.lq_run.proofs.runner.Runner.close.Goals as goal

pub returns-in-Ok-clause-closes : goal.returns-in-Ok-clause-closes
returns-in-Ok-clause-closes g c = λ p start s is left.
    let last = last_end c.args.self.now.fault c.args.self.now.refused in
    subst (λ e. Closes c.args.self.now.dialect g.T.Source.meaning c.args.self.now.stamp c.args.session p last start s (g.S.Store.state c.args.store.now) e (g.S.Store.state c.do_alone.new.store)) (sym c.last_end.ensures) (closes c.args.self.now.dialect g.T.Source.meaning c.args.self.now.stamp c.args.session p last (g.S.Store.state c.args.store.now) (g.S.Store.state c.do_alone.new.store) start s (Ok c.in-Ok.field-0) c.in-Ok.ensures.does is left)

pub returns-clause-closes : goal.returns-clause-closes
returns-clause-closes g c = λ p start s is left.
    let last = last_end c.args.self.now.fault c.args.self.now.refused in
    subst (λ e. Closes c.args.self.now.dialect g.T.Source.meaning c.args.self.now.stamp c.args.session p last start s (g.S.Store.state c.args.store.now) e (g.S.Store.state c.do_alone.new.store)) (sym c.end_of.ensures) (closes c.args.self.now.dialect g.T.Source.meaning c.args.self.now.stamp c.args.session p last (g.S.Store.state c.args.store.now) (g.S.Store.state c.do_alone.new.store) start s (Err c.in-Err.fault) c.in-Err.ensures.does is left)

pub returns-in-Ok-clause-beside : goal.returns-in-Ok-clause-beside
returns-in-Ok-clause-beside g c = ended_beside c.args.session (g.S.Store.state c.args.store.now) (g.S.Store.state c.do_alone.new.store) c.args.self.now.fault c.args.self.now.refused c.last_end.result c.requires.disk c.last_end.ensures c.in-Ok.ensures.beside

pub returns-in-Ok-clause-asks : goal.returns-in-Ok-clause-asks
returns-in-Ok-clause-asks g c = λ none live. c.in-Ok.ensures.shuts live

pub returns-clause-beside : goal.returns-clause-beside
returns-clause-beside g c = fault_beside c.args.session (g.S.Store.state c.args.store.now) (g.S.Store.state c.do_alone.new.store) c.in-Err.fault c.end_of.result c.end_of.ensures c.in-Err.ensures.beside

pub returns-clause-asks : goal.returns-clause-asks
returns-clause-asks g c = λ none live. c.in-Err.ensures.shuts live

pub returns-in-Ok-clause-stops : goal.returns-in-Ok-clause-stops
returns-in-Ok-clause-stops g c = λ before met. subst (λ e. StopsAs before (step.Ended e)) (sym c.last_end.ensures) (last_stops c.args.self.now.fault c.args.self.now.refused before met)

pub returns-clause-stops : goal.returns-clause-stops
returns-clause-stops g c = λ before met. subst (λ e. StopsAs before (step.Ended e)) (sym c.end_of.ensures) (fault_stops c.in-Err.fault before)
