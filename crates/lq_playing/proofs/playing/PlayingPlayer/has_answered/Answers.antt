use Rattle.std.proofs.Common.{◌∙◌}
use Rattle.lq_playing.proofs.Told.{some_came}
use Rattle.lq_playing.specs.Answers.{came}
use Rattle.lq_playing.proofs.playing.PlayingPlayer.has_answered.Goals as goal

pub returns : goal.returns
returns g c = c.is_some.ensures ∙ some_came (came (g.T.Checks.reports c.args.self.now.runner.source)) c.args.self.now.answer
