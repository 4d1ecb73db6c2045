use Rattle.std.proofs.Common.{length, map, ◌≡◌, ◌++◌}
use Rattle.lq_back.proofs.sync_turn.marked.Given as goal
use Rattle.lq_back.specs.Reversal.{mark_of}

abbrev pub invariant-loop-row : goal.invariant-loop-row
invariant-loop-row l = l.happened ++ map mark_of l.rest ≡ map mark_of l.rows

abbrev pub decreases-loop-row : goal.decreases-loop-row
decreases-loop-row l = length l.rest
