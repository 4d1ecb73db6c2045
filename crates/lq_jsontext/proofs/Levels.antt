-- A tree as data is no deeper than the tree.
use Rattle.std.proofs.Common.{◌≤◌, ℕ, List, [], ◌∷◌, map, max, subst, sym, arith}
use Rattle.std.specs.Cmp.Lexicographic.{slice_cmp}
use Rattle.std.specs.Map.{values_of}
use Rattle.std.specs.Ordering.{match_ordering, nat_cmp}
use Rattle.std.specs.Prelude.{if◌then◌else◌, Bool, true, false, ℤ}
use Rattle.std.specs.declared.cmp.Ordering.{Ordering}
use Rattle.std.specs.declared.cmp.Ordering.TheVariants.{Equal, Greater, Less}
use Rattle.serde_json.specs.Data.{Data, Members, depth, items_depth, member, members_depth, no_members, null, number, put}
use Rattle.serde_json.specs.Find.{of_integer}
use Rattle.serde_json.specs.View.{items_of}
use Rattle.lq_tree.specs.declared.node.Node.{Node, map-Node, roll-Node}
use Rattle.lq_tree.specs.declared.node.Node.TheOpen.{Node-F}
use Rattle.lq_tree.specs.declared.node.Node.TheFolds.{fold-roll-Node, ind-Node}
use Rattle.lq_jsontext.specs.JsonText.{data_in, data_of, entry_data, is_held, levels, levels_in, members_from, most}

abbrev IsShallow : Node → Type 0
IsShallow n = depth (data_of n) ≤ levels n

abbrev Shallow : Type 0
Shallow = (n : Node) × IsShallow n

number_depth : (held : Bool) (z : ℤ) → depth (if held then number (of_integer z) else null) ≤ 0
number_depth true z = omega arith
number_depth false z = omega arith

items_shallow : (ns : List Shallow) → items_depth (items_of (map data_of (map (λ e. e.0) ns))) ≤ most (map levels (map (λ e. e.0) ns))
items_shallow [] = omega arith
items_shallow (n ∷ ns) = omega (arith, n.1, items_shallow ns)

put_depth : (k : List ℕ) (d : Data) (ms : Members) → members_depth (put k d ms) ≤ max (depth d) (members_depth ms)
put_depth k d no_members = omega arith
put_depth k d (member l e ms) = by (slice_cmp nat_cmp k l) (put_depth k d ms) where
  by : (o : Ordering) → members_depth (put k d ms) ≤ max (depth d) (members_depth ms)
      → members_depth (match_ordering o (member k d (member l e ms)) (member l d ms) (member l e (put k d ms))) ≤ max (depth d) (max (depth e) (members_depth ms))
  by Less rest = omega arith
  by Equal rest = omega arith
  by Greater rest = omega (arith, rest)

abbrev plain : List (List ℕ × Shallow) → List (List ℕ × Node)
plain es = map (λ (e : List ℕ × Shallow). (e.0, e.1.0)) es

abbrev level_entry : List ℕ × Node → List ℕ × ℕ
level_entry e = (e.0, levels e.1)

members_shallow : (es : List (List ℕ × Shallow)) (ms : Members)
    → members_depth (members_from (map entry_data (plain es)) ms) ≤ max (most (values_of (map level_entry (plain es)))) (members_depth ms)
members_shallow [] ms = omega arith
members_shallow (e ∷ es) ms =
    omega (arith, e.1.1, put_depth e.0 (data_of e.1.0) ms, members_shallow es (put e.0 (data_of e.1.0) ms))

at_one : (y : Node-F Shallow) → depth (data_in (map-Node Node Data data_of (map-Node Shallow Node (λ e. e.0) y))) ≤ levels_in (map-Node Node ℕ levels (map-Node Shallow Node (λ e. e.0) y))
at_one (Node-F.Text t) = omega arith
at_one (Node-F.Whole z) = number_depth (is_held z) z
at_one (Node-F.Truth b) = omega arith
at_one Node-F.Null = omega arith
at_one (Node-F.List ns) = omega (arith, items_shallow ns)
at_one (Node-F.Map es) = omega (arith, members_shallow es no_members)

pub levels_bound : (n : Node) → depth (data_of n) ≤ levels n
levels_bound = ind-Node IsShallow (λ x y is. subst (λ z. IsShallow (roll-Node z)) is
    (subst (λ b. depth (data_of (roll-Node (map-Node Shallow Node (λ e. e.0) y))) ≤ b) (sym (fold-roll-Node ℕ levels_in (map-Node Shallow Node (λ e. e.0) y)))
    (subst (λ a. depth a ≤ levels_in (map-Node Node ℕ levels (map-Node Shallow Node (λ e. e.0) y))) (sym (fold-roll-Node Data data_in (map-Node Shallow Node (λ e. e.0) y))) (at_one y))))
