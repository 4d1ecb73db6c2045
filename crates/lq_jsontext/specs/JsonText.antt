-- The JSON text of a tree.
use Rattle.std.specs.List.{list_all}
use Rattle.std.specs.Map.{values_of}
use Rattle.std.specs.Prelude.{Bool, List, [], if◌then◌else◌, int_le, int_lt, max, neg_ℤ, pos, suc, true, ℕ, ℤ, ◌&&◌, ◌++◌, ◌^◌, ◌∷◌, ◌≡◌, ◌≤◌}
use Rattle.lq_tree.specs.Json.{is_tree}
use Rattle.lq_tree.specs.declared.node.Node.{Node, fold-Node}
use Rattle.lq_tree.specs.declared.node.Node.TheOpen.{Node-F}
use Rattle.serde_json.specs.Data.{Data, Members, array, boolean, no_members, null, number, object, put, string}
use Rattle.serde_json.specs.Find.{of_integer}
use Rattle.serde_json.specs.Read.{max_depth}
use Rattle.serde_json.specs.View.{items_of}
use Rattle.serde_json.specs.Written.{compact_text}

-- the members of an object, each at its key
abbrev pub members_from : List (List ℕ × Data) → Members → Members
members_from [] found = found
members_from (e ∷ es) found = members_from es (put e.0 e.1 found)

-- a whole number that an i64 or a u64 holds
abbrev pub is_held : ℤ → Bool
is_held z = int_le (neg_ℤ (pos (2 ^ 63))) z && int_lt z (pos (2 ^ 64))

-- one level, with each tree inside already seen as its data
abbrev pub data_in : Node-F Data → Data
data_in (Node-F.Text t) = string t
data_in (Node-F.Whole z) = if is_held z then number (of_integer z) else null
data_in (Node-F.Truth b) = boolean b
data_in Node-F.Null = null
data_in (Node-F.List ds) = array (items_of ds)
data_in (Node-F.Map es) = object (members_from es no_members)

-- a tree as a value of `serde_json`
abbrev pub data_of : Node → Data
data_of n = fold-Node Data data_in n

abbrev pub entry_data : List ℕ × Node → List ℕ × Data
entry_data e = (e.0, data_of e.1)

-- the text without blanks
unfoldable pub json_text : Node → List ℕ
json_text n = compact_text (data_of n)

-- and a line feed
abbrev pub json_line : Node → List ℕ
json_line n = json_text n ++ 10 ∷ []

abbrev held_in : Node-F Bool → Bool
held_in (Node-F.Whole z) = is_held z
held_in (Node-F.List inside) = list_all (λ b. b) inside
held_in (Node-F.Map inside) = list_all (λ b. b) (values_of inside)
held_in _ = true

-- each whole number of the tree is held so
abbrev pub are_held : Node → Bool
are_held n = fold-Node Bool held_in n

abbrev pub most : List ℕ → ℕ
most [] = 0
most (n ∷ ns) = max n (most ns)

abbrev pub levels_in : Node-F ℕ → ℕ
levels_in (Node-F.List inside) = suc (most inside)
levels_in (Node-F.Map inside) = suc (most (values_of inside))
levels_in _ = 0

-- how many lists and maps are in each other
abbrev pub levels : Node → ℕ
levels n = fold-Node ℕ levels_in n

-- what is written of the tree is read as that tree
pub record IsWritable (n : Node) : Type 0 where
  pub ordered : is_tree n ≡ true
  pub held : are_held n ≡ true
  pub shallow : levels n ≤ max_depth
