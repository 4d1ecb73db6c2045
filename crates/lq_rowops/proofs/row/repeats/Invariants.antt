use Rattle.std.proofs.Common.{length, ◌≡◌}
use Rattle.lq_model.specs.Catalogue.{repeats}
use Rattle.lq_rowops.proofs.row.repeats.Given as goal

abbrev pub invariant-loop-left : goal.invariant-loop-left
invariant-loop-left l = repeats l.left ≡ repeats l.initial.left

abbrev pub decreases-loop-left : goal.decreases-loop-left
decreases-loop-left l = length l.left
