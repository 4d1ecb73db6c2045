use Rattle.std.proofs.Common.{ap}
use Rattle.lq_players.proofs.Results.{ok_map}
use Rattle.lq_players.specs.Syncing.{sync_reports}
use Rattle.lq_playing.specs.Answers.{came}
use Rattle.lq_players.proofs.syncing.SyncingChecks.answer.Goals as goal

pub returns-clause-ends : goal.returns-clause-ends
returns-clause-ends c = ok_map c.answer_at.result _ _ c.answer_at.ensures.ends (λ a is. ap (came (sync_reports c.args.self.now)) is)
