use Rattle.std.proofs.Common.{length, reverse, ◌++◌, ◌≡◌}
use Rattle.lq_sets.proofs.set_turns.next_last.Given as goal

abbrev pub invariant-loop-item : goal.invariant-loop-item
invariant-loop-item l = l.turned ++ reverse l.left ≡ reverse l.fn.items

abbrev pub decreases-loop-item : goal.decreases-loop-item
decreases-loop-item l = length l.left
