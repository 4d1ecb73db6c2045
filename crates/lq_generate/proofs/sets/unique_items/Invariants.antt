use Rattle.std.proofs.Common.{◌≡◌, ◌++◌, drop, map}
use Rattle.lq_generate.specs.Generated.{unique_item}
use Rattle.lq_generate.proofs.sets.unique_items.Given as goal

abbrev pub invariant-loop-unique : goal.invariant-loop-unique
invariant-loop-unique l = l.nodes ++ map (unique_item l.table) (drop l.unique-index l.uniques) ≡ map (unique_item l.table) l.uniques
