use Rattle.std.proofs.Common.{◌∙◌}
use Rattle.tests_track.proofs.Whole.{among_named}
use Rattle.tests_track.proofs.one_table.is_among.Goals as goal

pub returns : goal.returns
returns c = c.is_any_named.ensures ∙ among_named c.args.name.now c.args.columns.now
