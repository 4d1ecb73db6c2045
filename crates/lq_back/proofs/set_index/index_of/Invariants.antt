use Rattle.std.proofs.Common.{length}
use Rattle.lq_back.proofs.Indexed.{IsPartly}
use Rattle.lq_back.proofs.set_index.index_of.Given as goal

abbrev pub invariant-loop-set : goal.invariant-loop-set
invariant-loop-set l = IsPartly l.sets l.rest l.index

abbrev pub decreases-loop-set : goal.decreases-loop-set
decreases-loop-set l = length l.rest
