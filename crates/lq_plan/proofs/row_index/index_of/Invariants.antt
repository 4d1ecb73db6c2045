use Rattle.std.proofs.Common.{length}
use Rattle.lq_plan.proofs.Indexed.{IsPartly}
use Rattle.lq_plan.proofs.row_index.index_of.Given as goal

abbrev pub invariant-loop-row : goal.invariant-loop-row
invariant-loop-row l = IsPartly l.rows l.rest l.index

abbrev pub decreases-loop-row : goal.decreases-loop-row
decreases-loop-row l = length l.rest
