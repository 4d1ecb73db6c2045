-- Blanks, and what stands before the last items of a list.
use Rattle.std.specs.BTreeMap.{insert_entry}
use Rattle.std.specs.Prelude.{Bool, List, [], cond, false, max, true, ℕ, ◌+◌, ◌==◌, ◌||◌, ◌∷◌}
use Rattle.lq_base.specs.Name.{text_cmp}
use Rattle.lq_tree.specs.declared.node.Node.{List as ListNode, Map as MapNode, Node, Null, out-Node}
use Rattle.lq_tree.specs.declared.node.Node.TheOpen.{Node-F}
use Rattle.lq_yaml.specs.declared.token.Head.{Head}
use Rattle.lq_yaml.specs.declared.token.Head.TheVariants.{Dash, Key}

-- a space or a tab
abbrev pub is_blank : ℕ → Bool
is_blank c = c == 32 || c == 9

abbrev pub unless_last : {A : Type 0} → (A → Bool) → A → List A → List A
unless_last test x [] = cond (test x) [] (x ∷ [])
unless_last test x (y ∷ ys) = x ∷ y ∷ ys

-- the items without those at the end that pass the test
abbrev pub without_last : {A : Type 0} → (A → Bool) → List A → List A
without_last test [] = []
without_last test (x ∷ xs) = unless_last test x (without_last test xs)

abbrev pub is_nil : List ℕ → Bool
is_nil [] = true
is_nil (c ∷ cs) = false

-- A tree as it stands in a file, with its entries in the order of the lines, and the node that it means.

mutual
  -- a scalar, `[]` or `{}`; no value; or a sequence or a mapping
  pub data Tree : Type 0 where
    leaf : Node → Tree
    empty : Tree
    collection : Entries → Tree

  pub data Entries : Type 0 where
    no_entries : Entries
    entry : Head → Tree → Entries → Entries

abbrev mutual
  -- the node that a tree means: no value is null
  pub node_of : Tree → Node
  node_of (leaf v) = v
  node_of empty = Null
  node_of (collection es) = collection_node es

  -- entries with dashes are a list, those with keys a map
  pub collection_node : Entries → Node
  collection_node no_entries = ListNode []
  collection_node (entry Dash t es) = ListNode (node_of t ∷ items_of es)
  collection_node (entry (Key k) t es) = MapNode (put_all ((k, node_of t) ∷ []) es)

  pub items_of : Entries → List Node
  items_of no_entries = []
  items_of (entry h t es) = node_of t ∷ items_of es

  -- each entry is put at its key's place in the order of the keys' bytes
  pub put_all : List (List ℕ × Node) → Entries → List (List ℕ × Node)
  put_all among no_entries = among
  put_all among (entry (Key k) t es) = put_all (insert_entry text_cmp among k (node_of t)) es
  put_all among (entry Dash t es) = put_all among es

abbrev pub open_levels : Node-F Node → ℕ
open_levels (Node-F.List ns) = 1
open_levels (Node-F.Map es) = 1
open_levels _ = 0

-- the levels of a value in its line: `[]` and `{}` have one, a scalar none
abbrev pub value_levels : Node → ℕ
value_levels v = open_levels (out-Node v)

abbrev mutual
  -- the levels of a tree: each collection is one
  pub levels : Tree → ℕ
  levels (leaf v) = value_levels v
  levels empty = 0
  levels (collection es) = entry_levels es + 1

  pub entry_levels : Entries → ℕ
  entry_levels no_entries = 0
  entry_levels (entry h t es) = max (levels t) (entry_levels es)
