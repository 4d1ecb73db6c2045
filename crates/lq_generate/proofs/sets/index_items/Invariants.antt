use Rattle.std.proofs.Common.{◌≡◌, ◌++◌, drop, map}
use Rattle.lq_generate.specs.Generated.{index_item}
use Rattle.lq_generate.proofs.sets.index_items.Given as goal

abbrev pub invariant-loop-index : goal.invariant-loop-index
invariant-loop-index l = l.nodes ++ map (index_item l.table) (drop l.index-index l.indexes) ≡ map (index_item l.table) l.indexes
