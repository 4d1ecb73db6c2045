use Rattle.std.proofs.Common.{◌≡◌, ◌++◌, map, take}
use Rattle.lq_sqltree.specs.SqlTree.{check}
use Rattle.lq_sqltree.proofs.change_set.conditions.Given as goal

abbrev pub invariant-loop-pair : goal.invariant-loop-pair
invariant-loop-pair l = l.nodes ≡ l.initial.nodes ++ map check (take l.pair-index l.set.checks)
