use Rattle.std.proofs.Common.{ap, sym, ◌∙◌}
use Rattle.std.specs.Option.{option_map}
use Rattle.lq_players.proofs.Refused.{its_answer}
use Rattle.lq_players.specs.AnyCommand.{command_stands}
use Rattle.lq_players.specs.AtOnce.{once_reports}
use Rattle.lq_players.specs.RollingBack.{back_reports}
use Rattle.lq_players.specs.Syncing.{sync_reports}
use Rattle.lq_players.specs.Updating.{update_reports}
use Rattle.lq_playing.specs.Answers.{answer_of}
use Rattle.lq_players.proofs.any_command.AnyCommand.answer.Goals as goal

pub returns-in-AtOnce : goal.returns-in-AtOnce
returns-in-AtOnce c = c.as_ref.ensures.value ∙ its_answer (once_reports c.in-AtOnce.player.runner.source) c.in-AtOnce.player.answer ∙ sym (ap (λ p. option_map answer_of (command_stands p).answer) c.in-AtOnce.is)

pub returns-in-Update : goal.returns-in-Update
returns-in-Update c = c.as_ref-in-Update.ensures.value ∙ its_answer (update_reports c.in-Update.player.runner.source) c.in-Update.player.answer ∙ sym (ap (λ p. option_map answer_of (command_stands p).answer) c.in-Update.is)

pub returns-in-Rollback : goal.returns-in-Rollback
returns-in-Rollback c = c.as_ref-in-Rollback.ensures.value ∙ its_answer (back_reports c.in-Rollback.player.runner.source) c.in-Rollback.player.answer ∙ sym (ap (λ p. option_map answer_of (command_stands p).answer) c.in-Rollback.is)

pub returns-in-Sync : goal.returns-in-Sync
returns-in-Sync c = c.as_ref-in-Sync.ensures.value ∙ its_answer (sync_reports c.in-Sync.player.runner.source) c.in-Sync.player.answer ∙ sym (ap (λ p. option_map answer_of (command_stands p).answer) c.in-Sync.is)
