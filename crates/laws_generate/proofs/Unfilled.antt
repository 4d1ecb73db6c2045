-- A tree into which nothing is put stays as it is.
use Rattle.std.proofs.Common.{◌≡◌, ◌∙◌, ℕ, ℤ, Bool, List, [], ◌∷◌, map, subst, refl, ap, sym, rules}
use Rattle.lq_props.specs.Replaced.{replaced}
use Rattle.lq_sources.specs.Items.{filled}
use Rattle.lq_tree.specs.declared.node.Node.{List as ListNode, Map as MapNode, Node, Null, Text as TextNode, Truth, Whole, map-Node, roll-Node, the_lemmas}
use Rattle.lq_tree.specs.declared.node.Node.TheOpen.{Node-F}
use Rattle.lq_tree.specs.declared.node.Node.TheFolds.{ind-Node}
use Rattle.lq_tree.specs.declared.node.Node.TheVariants.{rolls-List, rolls-Map, rolls-Null, rolls-Text, rolls-Truth, rolls-Whole}
use Rattle.laws_generate.proofs.FileRead.{no_value}
use Rattle.laws_generate.proofs.Same.{same}

abbrev IsSame : Node → Type 0
IsSame n = filled no_value n ≡ n

abbrev Kept : Type 0
Kept = (n : Node) × IsSame n

filled_text : (t : List ℕ) → filled no_value (TextNode t) ≡ TextNode (replaced no_value t)
filled_text t = search (rules, the_lemmas)

filled_whole : (z : ℤ) → filled no_value (Whole z) ≡ Whole z
filled_whole z = search (rules, the_lemmas)

filled_truth : (b : Bool) → filled no_value (Truth b) ≡ Truth b
filled_truth b = search (rules, the_lemmas)

filled_null : filled no_value Null ≡ Null
filled_null = search (rules, the_lemmas)

filled_list : (ns : List Node) → filled no_value (ListNode ns) ≡ ListNode (map (filled no_value) ns)
filled_list ns = search (rules, the_lemmas)

filled_map : (es : List (List ℕ × Node)) → filled no_value (MapNode es) ≡ MapNode (map (λ e. (e.0, filled no_value e.1)) es)
filled_map es = search (rules, the_lemmas)

abbrev plain : List (List ℕ × Kept) → List (List ℕ × Node)
plain es = map (λ (e : List ℕ × Kept). (e.0, e.1.0)) es

list_same : (ns : List Kept) → map (filled no_value) (map (λ e. e.0) ns) ≡ map (λ e. e.0) ns
list_same [] = refl
list_same (n ∷ ns) = rw (n.1, list_same ns) refl

map_same : (es : List (List ℕ × Kept)) → map (λ (e : List ℕ × Node). (e.0, filled no_value e.1)) (plain es) ≡ plain es
map_same [] = refl
map_same (e ∷ es) = rw (e.1.1, map_same es) refl

at_one : (y : Node-F Kept) → IsSame (roll-Node (map-Node Kept Node (λ e. e.0) y))
at_one (Node-F.Text s) = subst IsSame (sym (rolls-Text s)) (filled_text s ∙ ap (λ t. TextNode t) (same s))
at_one (Node-F.Whole z) = subst IsSame (sym (rolls-Whole z)) (filled_whole z)
at_one (Node-F.Truth b) = subst IsSame (sym (rolls-Truth b)) (filled_truth b)
at_one Node-F.Null = subst IsSame (sym rolls-Null) filled_null
at_one (Node-F.List ns) = subst IsSame (sym (rolls-List (map (λ e. e.0) ns))) (filled_list (map (λ e. e.0) ns) ∙ ap (λ ms. ListNode ms) (list_same ns))
at_one (Node-F.Map es) = subst IsSame (sym (rolls-Map (plain es))) (filled_map (plain es) ∙ ap (λ fs. MapNode fs) (map_same es))

pub unfilled : (n : Node) → filled no_value n ≡ n
unfilled = ind-Node IsSame (λ x y is. subst (λ z. IsSame (roll-Node z)) is (at_one y))
