use Rattle.std.proofs.Common.{ap, sym}
use Rattle.lq_players.proofs.UpdateMakes.{ends_so}
use Rattle.lq_players.specs.Updating.{ends_in, update_reports}
use Rattle.lq_playing.specs.Answers.{came}
use Rattle.lq_players.proofs.updating.UpdatingChecks.answer.Goals as goal

pub returns-in-Some-clause-ends : goal.returns-in-Some-clause-ends
returns-in-Some-clause-ends c = ends_so c.answer_at_end.result c.args.self.now.turns c.in-Some.source (update_reports c.args.self.now) c.args.refused c.in-Some.is c.answer_at_end.ensures.ends

pub returns-in-None-clause-ends : goal.returns-in-None-clause-ends
returns-in-None-clause-ends c = sym (ap (λ o. came (update_reports c.args.self.now) (ends_in o c.args.refused)) c.in-None.is)
