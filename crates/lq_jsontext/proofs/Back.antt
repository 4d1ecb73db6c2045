-- A tree, as data and as a tree again, is that tree.
use Rattle.std.proofs.Common.{◌≡◌, ◌∙◌, ◌&&◌, ℕ, ℤ, pos, negsuc, Bool, true, false, List, [], ◌∷◌, map, Some, option_map, subst, refl, ap, sym, rules, nat_cmp, Ordering, Less, Equal, Greater}
use Rattle.std.specs.Cmp.Lexicographic.{slice_cmp}
use Rattle.std.specs.List.{list_all}
use Rattle.std.specs.Map.{keys_of, values_of}
use Rattle.std.specs.Ordering.{is_lt}
use Rattle.std.specs.Prelude.{if◌then◌else◌}
use Rattle.serde_json.specs.Data.{null, number, object}
use Rattle.serde_json.specs.Find.{as_integer, of_integer}
use Rattle.serde_json.specs.View.{items_of}
use Rattle.lq_tree.specs.Json.{entries_of, tree_of, trees_of, is_tree, rises}
use Rattle.lq_tree.specs.declared.node.Node.{List as ListNode, Map as MapNode, Node, Whole, map-Node, roll-Node, the_lemmas}
use Rattle.lq_tree.specs.declared.node.Node.TheOpen.{Node-F}
use Rattle.lq_tree.specs.declared.node.Node.TheFolds.{ind-Node}
use Rattle.lq_tree.specs.declared.node.Node.TheVariants.{rolls-List, rolls-Map, rolls-Null, rolls-Text, rolls-Truth, rolls-Whole}
use Rattle.lq_jsontext.specs.JsonText.{are_held, data_of, is_held}
use Rattle.lq_jsontext.proofs.Trees.{Below, Rising, data_list, data_map, data_null, data_text, data_truth, data_whole, in_order, straight}

abbrev IsBack : Node → Type 0
IsBack n = is_tree n ≡ true → are_held n ≡ true → tree_of (data_of n) ≡ Some n

abbrev Back : Type 0
Back = (n : Node) × IsBack n

left : (a b : Bool) → (a && b) ≡ true → a ≡ true
left true b h = refl
left false b h = h

right : (a b : Bool) → (a && b) ≡ true → b ≡ true
right true b h = h
right false b h = absurd Prim.cc

list_tree : (ns : List Node) → is_tree (ListNode ns) ≡ list_all (λ b. b) (map is_tree ns)
list_tree ns = search (rules, the_lemmas)

map_tree : (es : List (List ℕ × Node)) → is_tree (MapNode es) ≡ (rises (keys_of (map (λ e. (e.0, is_tree e.1)) es)) && list_all (λ b. b) (values_of (map (λ e. (e.0, is_tree e.1)) es)))
map_tree es = search (rules, the_lemmas)

whole_held : (z : ℤ) → are_held (Whole z) ≡ is_held z
whole_held z = search (rules, the_lemmas)

list_held : (ns : List Node) → are_held (ListNode ns) ≡ list_all (λ b. b) (map are_held ns)
list_held ns = search (rules, the_lemmas)

map_held : (es : List (List ℕ × Node)) → are_held (MapNode es) ≡ list_all (λ b. b) (values_of (map (λ e. (e.0, are_held e.1)) es))
map_held es = search (rules, the_lemmas)

-- a whole number
whole_is : (z : ℤ) → option_map Whole (as_integer (of_integer z)) ≡ Some (Whole z)
whole_is (pos n) = refl
whole_is (negsuc n) = refl

whole_back : (z : ℤ) → IsBack (Whole z)
whole_back z t h =
    let held : is_held z ≡ true = sym (whole_held z) ∙ h in
    ap tree_of (data_whole z ∙ ap (λ b. if b then number (of_integer z) else null) held) ∙ whole_is z

-- a list
trees_back : (ns : List Back) → list_all (λ b. b) (map is_tree (map (λ e. e.0) ns)) ≡ true → list_all (λ b. b) (map are_held (map (λ e. e.0) ns)) ≡ true → trees_of (items_of (map data_of (map (λ e. e.0) ns))) ≡ Some (map (λ e. e.0) ns)
trees_back [] t h = refl
trees_back (n ∷ ns) t h = rw (n.1 (left (is_tree n.0) _ t) (left (are_held n.0) _ h), trees_back ns (right (is_tree n.0) _ t) (right (are_held n.0) _ h)) refl

list_back : (ns : List Back) → IsBack (ListNode (map (λ e. e.0) ns))
list_back ns t h =
    let nodes = map (λ (e : Back). e.0) ns in
    ap tree_of (data_list nodes) ∙ ap (option_map ListNode) (trees_back ns (sym (list_tree nodes) ∙ t) (sym (list_held nodes) ∙ h))

-- a map
abbrev plain : List (List ℕ × Back) → List (List ℕ × Node)
plain es = map (λ (e : List ℕ × Back). (e.0, e.1.0)) es

less_is : (o : Ordering) → is_lt o ≡ true → o ≡ Less
less_is Less h = refl
less_is Equal h = absurd Prim.cc
less_is Greater h = absurd Prim.cc

below : (k : List ℕ) (es : List (List ℕ × Node)) → list_all (λ l. is_lt (slice_cmp nat_cmp k l)) (keys_of (map (λ e. (e.0, is_tree e.1)) es)) ≡ true → Below k (map (λ e. (e.0, data_of e.1)) es)
below k [] h = tt
below k (e ∷ es) h = (less_is (slice_cmp nat_cmp k e.0) (left (is_lt (slice_cmp nat_cmp k e.0)) _ h), below k es (right (is_lt (slice_cmp nat_cmp k e.0)) _ h))

rising : (es : List (List ℕ × Node)) → rises (keys_of (map (λ e. (e.0, is_tree e.1)) es)) ≡ true → Rising (map (λ e. (e.0, data_of e.1)) es)
rising [] h = tt
rising (e ∷ es) h = (below e.0 es (left _ _ h), rising es (right _ _ h))

entries_back : (es : List (List ℕ × Back)) → list_all (λ b. b) (values_of (map (λ e. (e.0, is_tree e.1)) (plain es))) ≡ true → list_all (λ b. b) (values_of (map (λ e. (e.0, are_held e.1)) (plain es))) ≡ true
    → entries_of (straight (map (λ e. (e.0, data_of e.1)) (plain es))) ≡ Some (plain es)
entries_back [] t h = refl
entries_back (e ∷ es) t h = rw (e.1.1 (left (is_tree e.1.0) _ t) (left (are_held e.1.0) _ h), entries_back es (right (is_tree e.1.0) _ t) (right (are_held e.1.0) _ h)) refl

map_back : (es : List (List ℕ × Back)) → IsBack (MapNode (plain es))
map_back es t h =
    let nodes = plain es in
    let both = sym (map_tree nodes) ∙ t in
    ap tree_of (data_map nodes ∙ ap object (in_order (map (λ e. (e.0, data_of e.1)) nodes) (rising nodes (left _ _ both))))
    ∙ ap (option_map MapNode) (entries_back es (right (rises (keys_of (map (λ e. (e.0, is_tree e.1)) nodes))) _ both) (sym (map_held nodes) ∙ h))

at_one : (y : Node-F Back) → IsBack (roll-Node (map-Node Back Node (λ e. e.0) y))
at_one (Node-F.Text s) = subst IsBack (sym (rolls-Text s)) (λ t h. ap tree_of (data_text s))
at_one (Node-F.Whole z) = subst IsBack (sym (rolls-Whole z)) (whole_back z)
at_one (Node-F.Truth b) = subst IsBack (sym (rolls-Truth b)) (λ t h. ap tree_of (data_truth b))
at_one Node-F.Null = subst IsBack (sym rolls-Null) (λ t h. ap tree_of data_null)
at_one (Node-F.List ns) = subst IsBack (sym (rolls-List (map (λ e. e.0) ns))) (list_back ns)
at_one (Node-F.Map es) = subst IsBack (sym (rolls-Map (plain es))) (map_back es)

pub tree_back : (n : Node) → is_tree n ≡ true → are_held n ≡ true → tree_of (data_of n) ≡ Some n
tree_back = ind-Node IsBack (λ x y is. subst (λ z. IsBack (roll-Node z)) is (at_one y))
