use Rattle.std.proofs.Common.{drop, map, not, ◌++◌, ◌≡◌}
use Rattle.lq_deletes.proofs.loss.turned.Given as goal

abbrev pub invariant-loop-mark : goal.invariant-loop-mark
invariant-loop-mark l = l.others.items ++ map not (drop l.mark-index l.marks) ≡ map not l.marks
