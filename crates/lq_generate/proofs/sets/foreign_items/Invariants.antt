use Rattle.std.proofs.Common.{◌≡◌, ◌++◌, drop, map}
use Rattle.lq_generate.specs.Generated.{foreign_item}
use Rattle.lq_generate.proofs.sets.foreign_items.Given as goal

abbrev pub invariant-loop-key : goal.invariant-loop-key
invariant-loop-key l = l.nodes ++ map (foreign_item l.table) (drop l.key-index l.keys) ≡ map (foreign_item l.table) l.keys
