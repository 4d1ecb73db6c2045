use Rattle.std.proofs.Common.{◌≡◌, ◌++◌, drop, length, true}
use Rattle.std.specs.List.{list_all}
use Rattle.lq_tree.specs.Look.{map_found}
use Rattle.lq_tree.specs.Items.{items_from}
use Rattle.lq_tree.proofs.items.each_item.Given as goal

abbrev pub invariant-loop-node : goal.invariant-loop-node
invariant-loop-node g l = (items_from l.key 0 (g.R.Reader.of l.reader) l.nodes ≡ map_found (λ more. l.found ++ more) (items_from l.key (length l.found) (g.R.Reader.of l.reader) (drop l.node-index l.nodes))) × (list_all (g.R.Reader.fits l.reader) l.found ≡ true)
