use Rattle.std.proofs.Common.{◌∙◌, ap}
use Rattle.lq_playing.proofs.Taking.{fresh_as, going_as}
use Rattle.lq_playing.specs.Playing.{opens_as}
use Rattle.lq_playing.proofs.playing.Playing.play.Goals as goal

pub go_on-requires-clause-ready : goal.go_on-requires-clause-ready
go_on-requires-clause-ready g c = going_as g.T.Source.reads c.args.self.now.runner c.args.self.now.begun c.args.self.now.faulted c.if-self.true (c.requires.ready c.requires.going)

pub go_on-requires-clause-opens : goal.go_on-requires-clause-opens
go_on-requires-clause-opens g c = c.requires.opens ∙ ap (λ b. opens_as b c.args.self.now.runner.hand) c.if-self.true

pub begin-requires-clause-fresh : goal.begin-requires-clause-fresh
begin-requires-clause-fresh g c = fresh_as g.T.Source.reads c.args.self.now.runner c.args.self.now.begun c.args.self.now.faulted c.if-self.false (c.requires.ready c.requires.going)

pub begin-requires-clause-closed : goal.begin-requires-clause-closed
begin-requires-clause-closed g c = c.requires.opens ∙ ap (λ b. opens_as b c.args.self.now.runner.hand) c.if-self.false
