use Rattle.std.proofs.Common.{rules}
use Rattle.lq_lines.proofs.BothLemmas.{both_are, no_commands, no_steps}
use Rattle.lq_lines.proofs.Faults.{carried}
use Rattle.lq_lines.proofs.reading.both_of.Goals as goal

pub returns-in_err-commands : goal.returns-in_err-commands
returns-in_err-commands c =
    carried _ _ c.each_command.result c.from_residual.result c.in_err-commands.field-0.0
    (no_commands c.args.url.now c.args.lines.now c.args.place)
    c.each_command.ensures (search rules) (search rules)

pub returns-in_err-steps : goal.returns-in_err-steps
returns-in_err-steps c =
    carried _ _ c.steps_of.result c.from_residual-in_err-steps.result c.in_err-steps.field-0.0
    (no_steps c.args.url.now c.args.lines.now c.args.place c.in_ok-commands.commands c.requires.within c.in_ok-commands.ensures)
    c.steps_of.ensures (search rules) (search rules)

pub returns : goal.returns
returns c = both_are c.args.url.now c.args.lines.now c.args.place c.in_ok-commands.commands c.in_ok-steps.steps c.requires.within c.in_ok-commands.ensures c.in_ok-steps.ensures
