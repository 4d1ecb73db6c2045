-- Values put into the texts of a tree leave its numbers.
use Rattle.std.proofs.Common.{ap, map, refl, rules, subst, sym, ◌∙◌, ◌∷◌, ◌≡◌, [], List, Option, ℕ, ℤ, Bool, true}
use Rattle.std.proofs.lemmas.Bool.{and_from, and_parts}
use Rattle.lq_props.specs.Replaced.{replaced}
use Rattle.lq_sources.specs.Items.{filled}
use Rattle.lq_tree.proofs.Small.{are_small, have_small, is_small, list_is, map_is, null_small, text_small, truth_small, whole_is}
use Rattle.lq_tree.specs.declared.node.Node.{List as ListNode, Map as MapNode, Node, Null, Text as TextNode, Truth, Whole, map-Node, roll-Node, the_lemmas}
use Rattle.lq_tree.specs.declared.node.Node.TheFolds.{ind-Node}
use Rattle.lq_tree.specs.declared.node.Node.TheOpen.{Node-F}
use Rattle.lq_tree.specs.declared.node.Node.TheVariants.{rolls-List, rolls-Map, rolls-Null, rolls-Text, rolls-Truth, rolls-Whole}

module _ (value : List ℕ → Option (List ℕ)) where
  abbrev StaysSmall : Node → Type 0
  StaysSmall n = is_small n ≡ true → is_small (filled value n) ≡ true

  abbrev Stays : Type 0
  Stays = (n : Node) × StaysSmall n

  filled_text : (t : List ℕ) → filled value (TextNode t) ≡ TextNode (replaced value t)
  filled_text t = search (rules, the_lemmas)

  filled_whole : (z : ℤ) → filled value (Whole z) ≡ Whole z
  filled_whole z = search (rules, the_lemmas)

  filled_truth : (b : Bool) → filled value (Truth b) ≡ Truth b
  filled_truth b = search (rules, the_lemmas)

  filled_null : filled value Null ≡ Null
  filled_null = search (rules, the_lemmas)

  pub filled_list : (ns : List Node) → filled value (ListNode ns) ≡ ListNode (map (filled value) ns)
  filled_list ns = search (rules, the_lemmas)

  pub filled_map : (es : List (List ℕ × Node)) → filled value (MapNode es) ≡ MapNode (map (λ e. (e.0, filled value e.1)) es)
  filled_map es = search (rules, the_lemmas)

  abbrev plain : List (List ℕ × Stays) → List (List ℕ × Node)
  plain es = map (λ (e : List ℕ × Stays). (e.0, e.1.0)) es

  list_small : (ns : List Stays) → are_small (map (λ e. e.0) ns) ≡ true → are_small (map (filled value) (map (λ e. e.0) ns)) ≡ true
  list_small [] small = refl
  list_small (n ∷ ns) small =
      let parts = and_parts (is_small n.0) (are_small (map (λ e. e.0) ns)) small in
      and_from (is_small (filled value n.0)) (are_small (map (filled value) (map (λ e. e.0) ns))) (n.1 parts.0) (list_small ns parts.1)

  map_small : (es : List (List ℕ × Stays)) → have_small (plain es) ≡ true → have_small (map (λ (e : List ℕ × Node). (e.0, filled value e.1)) (plain es)) ≡ true
  map_small [] small = refl
  map_small (e ∷ es) small =
      let parts = and_parts (is_small e.1.0) (have_small (plain es)) small in
      and_from (is_small (filled value e.1.0)) (have_small (map (λ (e : List ℕ × Node). (e.0, filled value e.1)) (plain es))) (e.1.1 parts.0) (map_small es parts.1)

  at_one : (y : Node-F Stays) → StaysSmall (roll-Node (map-Node Stays Node (λ e. e.0) y))
  at_one (Node-F.Text t) = subst StaysSmall (sym (rolls-Text t)) (λ small. ap is_small (filled_text t) ∙ text_small (replaced value t))
  at_one (Node-F.Whole z) = subst StaysSmall (sym (rolls-Whole z)) (λ small. ap is_small (filled_whole z) ∙ small)
  at_one (Node-F.Truth b) = subst StaysSmall (sym (rolls-Truth b)) (λ small. ap is_small (filled_truth b) ∙ truth_small b)
  at_one Node-F.Null = subst StaysSmall (sym rolls-Null) (λ small. ap is_small filled_null ∙ null_small)
  at_one (Node-F.List ns) = subst StaysSmall (sym (rolls-List (map (λ e. e.0) ns))) (λ small.
      ap is_small (filled_list (map (λ e. e.0) ns)) ∙ (list_is (map (filled value) (map (λ e. e.0) ns)) ∙ list_small ns (sym (list_is (map (λ e. e.0) ns)) ∙ small)))
  at_one (Node-F.Map es) = subst StaysSmall (sym (rolls-Map (plain es))) (λ small.
      ap is_small (filled_map (plain es)) ∙ (map_is (map (λ (e : List ℕ × Node). (e.0, filled value e.1)) (plain es)) ∙ map_small es (sym (map_is (plain es)) ∙ small)))

  pub filled_small : (n : Node) → is_small n ≡ true → is_small (filled value n) ≡ true
  filled_small = ind-Node StaysSmall (λ x y is. subst (λ z. StaysSmall (roll-Node z)) is (at_one y))
