use Rattle.std.proofs.Common.{ap, ◌∙◌}
use Rattle.std.specs.Prelude.{Some}
use Rattle.lq_commands.proofs.Warned.{quiet_lines}
use Rattle.lq_undoing.proofs.command.undone.Goals as goal

pub returns-clause-tells : goal.returns-clause-tells
returns-clause-tells c = record { status = c.with.ensures.status; out = c.with.ensures.out ∙ ap Some c.in_ok-text.ensures; warned = quiet_lines c.with.result (c.with.ensures.own, c.with.ensures.warned) }
