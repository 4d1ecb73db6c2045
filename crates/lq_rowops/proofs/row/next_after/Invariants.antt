use Rattle.std.proofs.Common.{length, ◌≡◌}
use Rattle.lq_model.specs.Rows.{next_of}
use Rattle.lq_rowops.proofs.row.next_after.Given as goal

abbrev pub invariant-loop-left : goal.invariant-loop-left
invariant-loop-left l =
    next_of l.dialect l.stated l.left l.cells l.next ≡ next_of l.dialect l.stated l.initial.left l.initial.cells l.next

abbrev pub decreases-loop-left : goal.decreases-loop-left
decreases-loop-left l = length l.left
