use Rattle.std.proofs.Common.{length, map, ◌≡◌, ◌++◌}
use Rattle.std.specs.Prelude.{reverse}
use Rattle.lq_back.proofs.sync_turn.push_inserts.Given as goal
use Rattle.lq_back.specs.Reversal.{insert_call}

abbrev pub invariant-loop-row : goal.invariant-loop-row
invariant-loop-row l = map insert_call l.rows ++ reverse l.calls ≡ map insert_call l.fn.rows ++ reverse l.fn.calls

abbrev pub decreases-loop-row : goal.decreases-loop-row
decreases-loop-row l = length l.rows
