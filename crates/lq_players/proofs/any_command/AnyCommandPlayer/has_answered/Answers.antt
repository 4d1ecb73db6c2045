use Rattle.std.proofs.Common.{ap, sym, ◌∙◌}
use Rattle.std.specs.Prelude.{is_some}
use Rattle.lq_players.specs.AnyCommand.{command_stands}
use Rattle.lq_players.proofs.any_command.AnyCommandPlayer.has_answered.Goals as goal

pub returns-in-AtOnce : goal.returns-in-AtOnce
returns-in-AtOnce c = c.has_answered.ensures ∙ sym (ap (λ p. is_some (command_stands p).answer) c.in-AtOnce.is)

pub returns-in-Update : goal.returns-in-Update
returns-in-Update c = c.has_answered-in-Update.ensures ∙ sym (ap (λ p. is_some (command_stands p).answer) c.in-Update.is)

pub returns-in-Rollback : goal.returns-in-Rollback
returns-in-Rollback c = c.has_answered-in-Rollback.ensures ∙ sym (ap (λ p. is_some (command_stands p).answer) c.in-Rollback.is)

pub returns-in-Sync : goal.returns-in-Sync
returns-in-Sync c = c.has_answered-in-Sync.ensures ∙ sym (ap (λ p. is_some (command_stands p).answer) c.in-Sync.is)
