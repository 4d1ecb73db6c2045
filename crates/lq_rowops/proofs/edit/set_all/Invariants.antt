use Rattle.std.proofs.Common.{length, map, ◌≡◌}
use Rattle.lq_model.specs.Rows.{set_all}
use Rattle.lq_rowops.specs.InsertTests.{value_set}
use Rattle.lq_rowops.proofs.edit.set_all.Given as goal

abbrev pub invariant-loop-left : goal.invariant-loop-left
invariant-loop-left l =
    (set_all l.left l.columns l.row ≡ set_all l.initial.left l.columns l.initial.row)
    × (l.given ≡ map (value_set l.columns) l.left)

abbrev pub decreases-loop-left : goal.decreases-loop-left
decreases-loop-left l = length l.left
