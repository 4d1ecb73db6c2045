use Rattle.std.proofs.Common.{length}
use Rattle.lq_kept.proofs.EachUndone.{Goes}
use Rattle.lq_kept.proofs.undoing.undo_all.Given as goal

abbrev pub invariant-loop-row : goal.invariant-loop-row
invariant-loop-row g l = Goes (g.U.UndoesRows.is_way l.by) (g.U.UndoesRows.is_turn l.by) l.rows l.rest l.left l.turns

abbrev pub decreases-loop-row : goal.decreases-loop-row
decreases-loop-row g l = length l.rest
