-- The trees of what is read of a JSON text.
use Rattle.std.specs.Prelude.{List, Option, option_and_then, ℕ}
use Rattle.json.specs.Json as json
use Rattle.lq_tree.specs.Json.{entries_of, tree_of, trees_of}
use Rattle.lq_tree.specs.declared.node.Node.{Node}
use Rattle.serde_json.specs.Data.{no_members}
use Rattle.serde_json.specs.Read.{of_items, of_json, of_members}

-- the tree of a value
abbrev pub tree_from : json.Json → Option Node
tree_from j = option_and_then tree_of (of_json j)

-- the trees of a list's items
abbrev pub trees_from : json.Items → Option (List Node)
trees_from js = option_and_then trees_of (of_items js)

-- the entries of a map's members
abbrev pub entries_from : json.Members → Option (List (List ℕ × Node))
entries_from ms = option_and_then entries_of (of_members ms no_members)
