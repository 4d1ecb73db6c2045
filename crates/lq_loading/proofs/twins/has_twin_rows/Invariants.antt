use Rattle.std.proofs.Common.{length}
use Rattle.lq_loading.proofs.TwinRows.{Left}
use Rattle.lq_loading.proofs.twins.has_twin_rows.Given as goal

abbrev pub invariant-loop-row : goal.invariant-loop-row
invariant-loop-row l = Left l.fn.rows l.left l.seen

abbrev pub decreases-loop-row : goal.decreases-loop-row
decreases-loop-row l = length l.left
