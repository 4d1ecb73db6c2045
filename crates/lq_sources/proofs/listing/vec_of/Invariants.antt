use Rattle.std.proofs.Common.{◌≡◌, ◌++◌, length, reverse}
use Rattle.lq_sources.proofs.listing.vec_of.Given as goal

abbrev pub invariant-loop-path : goal.invariant-loop-path
invariant-loop-path l = l.moved.items ++ reverse l.paths ≡ reverse l.fn.paths

abbrev pub decreases-loop-path : goal.decreases-loop-path
decreases-loop-path l = length l.paths
