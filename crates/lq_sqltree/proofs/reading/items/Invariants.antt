use Rattle.std.proofs.Common.{◌≡◌, map, take}
use Rattle.lq_sqltree.specs.SqlTree.{item}
use Rattle.lq_sqltree.proofs.reading.items.Given as goal

abbrev pub invariant-loop-set : goal.invariant-loop-set
invariant-loop-set l = l.nodes ≡ map (item l.logical) (take l.set-index l.sets)
