use Rattle.std.proofs.Common.{ap, ◌∙◌}
use Rattle.lq_turns.specs.Stops.{is_mark}
use Rattle.lq_commands.proofs.BareName.{clean_bare}
use Rattle.lq_commands.proofs.stamp.stamp_of.Goals as goal

pub returns-clause-name : goal.returns-clause-name
returns-clause-name c = ap is_mark c.in_ok-clean.ensures ∙ clean_bare c.args.who.now
