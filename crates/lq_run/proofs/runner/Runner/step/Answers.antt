use Rattle.lq_run.proofs.Stepping.{ready_giving_up, ready_inside}
use Rattle.lq_run.specs.Steps.{standing, turns_of}
use Rattle.lq_store.specs.Journal.{is_open}
use Rattle.lq_run.proofs.runner.Runner.step.Goals as goal

pub go_on-requires-clause-turns : goal.go_on-requires-clause-turns
go_on-requires-clause-turns g c = ready_inside c.args.self.now.dialect (is_open c.args.session (g.S.Store.state c.args.store.now).begun) c.args.self.now.hand (turns_of (standing g.T.Source.left g.T.Source.way c.args.self.now)) c.in-Inside.is c.requires.ready

pub give_up-requires-clause-open_here : goal.give_up-requires-clause-open_here
give_up-requires-clause-open_here g c = ready_giving_up c.args.self.now.dialect (is_open c.args.session (g.S.Store.state c.args.store.now).begun) c.args.self.now.hand (turns_of (standing g.T.Source.left g.T.Source.way c.args.self.now)) c.in-GivingUp.is c.requires.ready
