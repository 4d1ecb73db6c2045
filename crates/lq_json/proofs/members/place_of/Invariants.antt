use Rattle.std.proofs.Common.{◌≡◌, ◌++◌, drop, take}
use Rattle.std.specs.BTreeMap.{insert_entry}
use Rattle.std.specs.Cmp.Lexicographic.{slice_cmp}
use Rattle.std.specs.Ordering.{nat_cmp}
use Rattle.lq_tree.specs.declared.node.Node.{Node as Tree}
use Rattle.lq_json.proofs.members.place_of.Given as goal

abbrev pub invariant-loop-place : goal.invariant-loop-place
invariant-loop-place l =
    (node : Tree) → insert_entry (slice_cmp nat_cmp) l.entries l.key node ≡ take l.place l.entries ++ insert_entry (slice_cmp nat_cmp) (drop l.place l.entries) l.key node
