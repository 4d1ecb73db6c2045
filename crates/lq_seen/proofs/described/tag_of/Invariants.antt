use Rattle.std.proofs.Common.{length, ◌≡◌}
use Rattle.lq_seen.proofs.described.tag_of.Given as goal
use Rattle.lq_seen.specs.View.{tag_of}

abbrev pub invariant-loop-rest : goal.invariant-loop-rest
invariant-loop-rest l = tag_of l.rest ≡ tag_of l.changes

abbrev pub decreases-loop-rest : goal.decreases-loop-rest
decreases-loop-rest l = length l.rest
