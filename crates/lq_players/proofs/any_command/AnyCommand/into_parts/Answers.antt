use Rattle.std.proofs.Common.{ap, sym, ◌∙◌}
use Rattle.lq_players.specs.AnyCommand.{command_stands}
use Rattle.lq_players.proofs.any_command.AnyCommand.into_parts.Goals as goal

pub returns-in-AtOnce : goal.returns-in-AtOnce
returns-in-AtOnce c = c.into_parts.ensures ∙ sym (ap (λ p. (command_stands p).answer) c.in-AtOnce.is)

pub returns-in-Update : goal.returns-in-Update
returns-in-Update c = c.into_parts-in-Update.ensures ∙ sym (ap (λ p. (command_stands p).answer) c.in-Update.is)

pub returns-in-Rollback : goal.returns-in-Rollback
returns-in-Rollback c = c.into_parts-in-Rollback.ensures ∙ sym (ap (λ p. (command_stands p).answer) c.in-Rollback.is)

pub returns-in-Sync : goal.returns-in-Sync
returns-in-Sync c = c.into_parts-in-Sync.ensures ∙ sym (ap (λ p. (command_stands p).answer) c.in-Sync.is)
