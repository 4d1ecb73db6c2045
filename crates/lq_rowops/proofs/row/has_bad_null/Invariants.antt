use Rattle.std.proofs.Common.{length, ◌≡◌}
use Rattle.lq_model.specs.Catalogue.{has_bad_null}
use Rattle.lq_rowops.proofs.row.has_bad_null.Given as goal

abbrev pub invariant-loop-left : goal.invariant-loop-left
invariant-loop-left l = has_bad_null l.left l.cells ≡ has_bad_null l.initial.left l.initial.cells

abbrev pub decreases-loop-left : goal.decreases-loop-left
decreases-loop-left l = length l.left
