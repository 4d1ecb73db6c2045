use Rattle.std.proofs.Common.{◌≡◌, ◌≤◌, length, take}
use Rattle.lq_yaml.specs.Tree.{without_last, is_nil}
use Rattle.lq_yaml.proofs.block.without_last_empty.Given as goal

abbrev pub invariant-loop-end : goal.invariant-loop-end
invariant-loop-end l = (l.end ≤ length l.lines) × (without_last is_nil l.lines ≡ without_last is_nil (take l.end l.lines))

abbrev pub decreases-loop-end : goal.decreases-loop-end
decreases-loop-end l = l.end
