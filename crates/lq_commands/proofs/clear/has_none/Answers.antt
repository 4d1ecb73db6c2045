use Rattle.std.proofs.Common.{◌∙◌}
use Rattle.lq_commands.proofs.Cleared.{none_is}
use Rattle.lq_commands.proofs.clear.has_none.Goals as goal

pub returns : goal.returns
returns c = c.is_empty.ensures ∙ none_is c.args.rows.now
