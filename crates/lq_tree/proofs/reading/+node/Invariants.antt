use Rattle.std.proofs.Common.{◌≡◌, ◌++◌, drop, option_map}
use Rattle.serde_json.specs.View.{items_view, members_view}
use Rattle.lq_tree.specs.Json.{trees_of, entries_of}
use Rattle.lq_tree.proofs.reading.+node.Given as goal

abbrev pub invariant-nodes_of-loop-item : goal.invariant-nodes_of-loop-item
invariant-nodes_of-loop-item l = trees_of (items_view l.items.items) ≡ option_map (λ more. l.nodes ++ more) (trees_of (items_view (drop l.item-index l.items.items)))

abbrev pub invariant-entries_of-loop-key : goal.invariant-entries_of-loop-key
invariant-entries_of-loop-key l = entries_of (members_view l.found.entries) ≡ option_map (λ more. l.entries ++ more) (entries_of (members_view l.key-iterator))
