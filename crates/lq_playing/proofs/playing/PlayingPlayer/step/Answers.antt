use Rattle.lq_playing.proofs.Told.{none_came}
use Rattle.lq_playing.specs.Answers.{came}
use Rattle.lq_playing.proofs.playing.PlayingPlayer.step.Goals as goal

pub play-requires-clause-going : goal.play-requires-clause-going
play-requires-clause-going g c = none_came (came (g.T.Checks.reports c.args.self.now.runner.source)) c.args.self.now.answer c.requires.going

pub returns-clause-live : goal.returns-clause-live
returns-clause-live g c = c.play.ensures.took.live

pub returns-clause-dialect : goal.returns-clause-dialect
returns-clause-dialect g c = c.play.ensures.took.dialect

pub returns-clause-ready : goal.returns-clause-ready
returns-clause-ready g c = c.play.ensures.took.ready

pub returns-clause-opens : goal.returns-clause-opens
returns-clause-opens g c = c.play.ensures.took.opens

pub returns-clause-shut : goal.returns-clause-shut
returns-clause-shut g c = c.play.ensures.took.shut

pub returns-clause-lets_be : goal.returns-clause-lets_be
returns-clause-lets_be g c = c.play.ensures.took.lets_be

pub returns-clause-owns : goal.returns-clause-owns
returns-clause-owns g c = c.play.ensures.took.owns

pub returns-clause-faulted : goal.returns-clause-faulted
returns-clause-faulted g c = c.play.ensures.took.faulted

pub returns-clause-ends : goal.returns-clause-ends
returns-clause-ends g c = c.play.ensures.took.ends

pub returns-clause-moves : goal.returns-clause-moves
returns-clause-moves g c = c.play.ensures.took.moves

pub returns-clause-met : goal.returns-clause-met
returns-clause-met g c = c.play.ensures.took.met

pub returns-clause-crash : goal.returns-clause-crash
returns-clause-crash g c = c.play.ensures.took.crash

pub returns-clause-idle : goal.returns-clause-idle
returns-clause-idle g c = c.play.ensures.idle
