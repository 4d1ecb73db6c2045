use Rattle.std.proofs.Common.{◌≡◌, ◌++◌, drop, map}
use Rattle.lq_contents.specs.Trees.{own_item}
use Rattle.lq_contents.proofs.own.own_items.Given as goal

abbrev pub invariant-loop-node : goal.invariant-loop-node
invariant-loop-node l = l.made ++ map own_item (drop l.node-index l.nodes) ≡ map own_item l.nodes
