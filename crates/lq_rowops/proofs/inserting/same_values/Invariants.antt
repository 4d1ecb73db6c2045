use Rattle.std.proofs.Common.{length, ◌≡◌}
use Rattle.lq_model.specs.Catalogue.{same_values}
use Rattle.lq_rowops.proofs.inserting.same_values.Given as goal

abbrev pub invariant-loop-left : goal.invariant-loop-left
invariant-loop-left l = same_values l.left l.right ≡ same_values l.initial.left l.initial.right

abbrev pub decreases-loop-left : goal.decreases-loop-left
decreases-loop-left l = length l.left
