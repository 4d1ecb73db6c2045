use Rattle.std.proofs.Common.{sym, ◌∙◌}
use Rattle.lq_tree.proofs.blanks.without_front_blanks.Goals as goal

pub returns : goal.returns
returns c = sym c.in_default.ensures.none ∙ c.loop-more.invariant.0
