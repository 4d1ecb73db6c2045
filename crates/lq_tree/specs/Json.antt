-- The tree of a JSON text.
use Rattle.std.specs.Cmp.Lexicographic.{slice_cmp}
use Rattle.std.specs.List.{list_all}
use Rattle.std.specs.Map.{keys_of, values_of}
use Rattle.std.specs.Ordering.{is_lt, nat_cmp}
use Rattle.std.specs.Prelude.{Bool, Err, IsTrue, List, None, Ok, Option, Result, Some, [], false, if◌then◌else◌, option_and_then, option_map, true, unwrap_or, ℕ, ◌&&◌, ◌∷◌}
use Rattle.std.specs.Str.{is_utf8}
use Rattle.lq_tree.specs.declared.node.Node.{List as ListNode, Map as MapNode, Node, Null, Text, Truth, Whole, fold-Node}
use Rattle.lq_tree.specs.declared.node.Node.TheOpen.{Node-F}
use Rattle.lq_tree.specs.declared.node.TreeFault.{TreeFault}
use Rattle.lq_tree.specs.declared.node.TreeFault.TheVariants.{FloatNumber, NotJson}
use Rattle.serde_json.specs.Data.{Data, Items, Members, array, boolean, item, member, no_items, no_members, null, number, object, string}
use Rattle.serde_json.specs.Find.{as_integer}
use Rattle.serde_json.specs.Read.{read}
use Rattle.serde_json.specs.Written.{has_float}

-- what `serde_json` reads the bytes as: None where they are not UTF-8 or no JSON
abbrev pub json_value : List ℕ → Option Data
json_value bytes = if is_utf8 bytes then read bytes else None

-- whether a number of that value is held neither as an i64 nor as a u64
abbrev pub holds_float : List ℕ → Bool
holds_float bytes = unwrap_or (option_map has_float (json_value bytes)) false

-- the tree of a value of `serde_json`: None where one of its numbers is a float
abbrev mutual
  pub tree_of : Data → Option Node
  tree_of null = Some Null
  tree_of (boolean b) = Some (Truth b)
  tree_of (number n) = option_map Whole (as_integer n)
  tree_of (string s) = Some (Text s)
  tree_of (array ds) = option_map ListNode (trees_of ds)
  tree_of (object ms) = option_map MapNode (entries_of ms)

  pub trees_of : Items → Option (List Node)
  trees_of no_items = Some []
  trees_of (item d ds) = option_and_then (λ n. option_map (λ ns. n ∷ ns) (trees_of ds)) (tree_of d)

  pub entries_of : Members → Option (List (List ℕ × Node))
  entries_of no_members = Some []
  entries_of (member k d ms) = option_and_then (λ n. option_map (λ es. (k, n) ∷ es) (entries_of ms)) (tree_of d)

abbrev pub or_float : Option Node → Result Node TreeFault
or_float (Some n) = Ok n
or_float None = Err FloatNumber

abbrev pub tree_or_fault : Option Data → Result Node TreeFault
tree_or_fault (Some d) = or_float (tree_of d)
tree_or_fault None = Err NotJson

-- what the bytes are read as, were there memory enough
abbrev pub json_tree : List ℕ → Result Node TreeFault
json_tree bytes = tree_or_fault (json_value bytes)

-- Trees whose maps are in order.

-- each text is below those after it, by its bytes
abbrev pub rises : List (List ℕ) → Bool
rises [] = true
rises (k ∷ ks) = list_all (λ l. is_lt (slice_cmp nat_cmp k l)) ks && rises ks

-- one level, with each tree inside already judged
abbrev in_order : Node-F Bool → Bool
in_order (Node-F.List inside) = list_all (λ b. b) inside
in_order (Node-F.Map inside) = rises (keys_of inside) && list_all (λ b. b) (values_of inside)
in_order _ = true

-- each map of the tree, at whatever depth, has each key once, in the order of the keys' bytes
abbrev pub is_tree : Node → Bool
is_tree = fold-Node Bool in_order

abbrev pub IsTree : Node → Type 0
IsTree n = IsTrue (is_tree n)
