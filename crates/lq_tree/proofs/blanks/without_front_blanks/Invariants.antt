use Rattle.std.proofs.Common.{length, ◌≡◌}
use Rattle.std.specs.Str.{IsUtf8}
use Rattle.lq_tree.specs.Given.{without_front_blanks}
use Rattle.lq_tree.proofs.blanks.without_front_blanks.Given as goal

abbrev pub invariant-loop-more : goal.invariant-loop-more
invariant-loop-more l = (without_front_blanks l.rest ≡ without_front_blanks l.initial.rest) × IsUtf8 l.rest

abbrev pub decreases-loop-more : goal.decreases-loop-more
decreases-loop-more l = length l.rest
