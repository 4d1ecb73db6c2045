use Rattle.std.proofs.Common.{reverse, ◌≡◌, ◌++◌}
use Rattle.lq_sets.proofs.beginnings.push_none.Given as goal
use Rattle.lq_sets.specs.Counting.{begins_none}

abbrev pub invariant-loop-left : goal.invariant-loop-left
invariant-loop-left l = begins_none l.left ++ reverse l.beginnings ≡ begins_none l.fn.count ++ reverse l.fn.beginnings

abbrev pub decreases-loop-left : goal.decreases-loop-left
decreases-loop-left l = l.left
