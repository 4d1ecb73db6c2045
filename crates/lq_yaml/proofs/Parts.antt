-- What is closed of a collection, and which heads may follow.
use Rattle.std.proofs.Common.{◌≡◌, ℕ, Bool, true, false, not, ◌&&◌, ◌||◌, cond, is_some, List, [], ◌∷◌, ◌++◌, Option, Some, None, Ordering, Less, Equal, Greater, refl, sym, ap, ◌∙◌, append_assoc}
use Rattle.std.proofs.lemmas.Cmp.{nat_list_cmp_total}
use Rattle.std.specs.BTreeMap.{insert_entry, is_at}
use Rattle.std.specs.Map.{lookup}
use Rattle.std.specs.Ordering.{match_ordering, ordering_reverse, is_eq}
use Rattle.lq_base.specs.Name.{text_cmp, is_text}
use Rattle.lq_tree.specs.declared.node.Node.{Node, List as ListNode, Map as MapNode}
use Rattle.lq_yaml.specs.declared.token.Head.{Head}
use Rattle.lq_yaml.specs.declared.token.Head.TheVariants.{Dash, Key}
use Rattle.lq_yaml.specs.Tree.{Tree, Entries, no_entries, entry, node_of, collection_node, items_of, put_all}
use Rattle.lq_yaml.specs.Layout.{goes_with, goes_with_all}
use Rattle.lq_yaml.specs.Machine.{Part, items, entries, begun, fits, filled, next}

-- the part tells which heads go with those before
abbrev pub Tells : Part → List Head → Type 0
Tells p seen = (h : Head) → fits h p ≡ goes_with_all h seen

and_assoc : (a b c : Bool) → ((a && b) && c) ≡ (a && (b && c))
and_assoc true b c = refl
and_assoc false b c = refl

and_true : (a : Bool) → (a && true) ≡ a
and_true true = refl
and_true false = refl

pub all_snoc : (h : Head) (seen : List Head) (g : Head) → goes_with_all h (seen ++ g ∷ []) ≡ (goes_with_all h seen && goes_with h g)
all_snoc h [] g = and_true (goes_with h g)
all_snoc h (s ∷ seen) g = ap (λ (b : Bool). goes_with h s && b) (all_snoc h seen g) ∙ sym (and_assoc (goes_with h s) (goes_with_all h seen) (goes_with h g))

pub tells_begun : (g : Head) → Tells (begun g) (g ∷ [])
tells_begun Dash Dash = refl
tells_begun Dash (Key j) = refl
tells_begun (Key k) Dash = refl
tells_begun (Key k) (Key j) = refl

found : {X : Type 0} (b : Bool) (x : X) (o : Option X) → is_some (cond b (Some x) o) ≡ (b || is_some o)
found true x o = refl
found false x o = refl

or_swap : (a b c : Bool) → (a || (b || c)) ≡ (b || (a || c))
or_swap true true c = refl
or_swap true false c = refl
or_swap false b c = refl

or_twice : (a b : Bool) → (a || b) ≡ (a || (a || b))
or_twice true b = refl
or_twice false b = refl

looked : (i k : List ℕ) (n : Node) (e : List ℕ × Node) (es : List (List ℕ × Node)) (o : Ordering) → text_cmp k e.0 ≡ o
    → is_some (lookup (is_at (text_cmp i)) (insert_entry text_cmp es k n)) ≡ (is_text i k || is_some (lookup (is_at (text_cmp i)) es))
    → is_some (lookup (is_at (text_cmp i)) (match_ordering o ((k, n) ∷ e ∷ es) ((e.0, n) ∷ es) (e ∷ insert_entry text_cmp es k n)))
    ≡ (is_text i k || is_some (lookup (is_at (text_cmp i)) (e ∷ es)))
looked i k n e es Less is more = found (is_text i k) n (lookup (is_at (text_cmp i)) (e ∷ es))
looked i k n e es Equal is more =
    let turned : text_cmp i k ≡ text_cmp i e.0 = nat_list_cmp_total.antisymm i k ∙ ap ordering_reverse (nat_list_cmp_total.congr k e.0 i is) ∙ sym (nat_list_cmp_total.antisymm i e.0) in
    found (is_text i e.0) n (lookup (is_at (text_cmp i)) es)
    ∙ or_twice (is_text i e.0) (is_some (lookup (is_at (text_cmp i)) es))
    ∙ ap (λ (b : Bool). is_text i e.0 || b) (sym (found (is_text i e.0) e.1 (lookup (is_at (text_cmp i)) es)))
    ∙ ap (λ (o : Ordering). is_eq o || is_some (lookup (is_at (text_cmp i)) (e ∷ es))) (sym turned)
looked i k n e es Greater is more =
    found (is_text i e.0) e.1 (lookup (is_at (text_cmp i)) (insert_entry text_cmp es k n))
    ∙ ap (λ (b : Bool). is_text i e.0 || b) more
    ∙ or_swap (is_text i e.0) (is_text i k) (is_some (lookup (is_at (text_cmp i)) es))
    ∙ ap (λ (b : Bool). is_text i k || b) (sym (found (is_text i e.0) e.1 (lookup (is_at (text_cmp i)) es)))

-- a key is found after another was put in where it is that, or was found before
pub lookup_insert : (i k : List ℕ) (n : Node) (es : List (List ℕ × Node))
    → is_some (lookup (is_at (text_cmp i)) (insert_entry text_cmp es k n)) ≡ (is_text i k || is_some (lookup (is_at (text_cmp i)) es))
lookup_insert i k n [] = found (is_text i k) n None
lookup_insert i k n (e ∷ es) = looked i k n e es (text_cmp k e.0) refl (lookup_insert i k n es)

apart : (a b c : Bool) → (not a && not (b || c)) ≡ ((not b && not c) && not a)
apart true true c = refl
apart true false true = refl
apart true false false = refl
apart false true c = refl
apart false false true = refl
apart false false false = refl

fits_next : (g : Head) (p : Part) (n : Node) (h : Head) → fits g p ≡ true → fits h (next g p n) ≡ (fits h p && goes_with h g)
fits_next Dash (items ns) n Dash is = refl
fits_next Dash (items ns) n (Key i) is = refl
fits_next Dash (entries es k) n h is = absurd Prim.cc
fits_next (Key j) (items ns) n h is = absurd Prim.cc
fits_next (Key j) (entries es k) n Dash is = refl
fits_next (Key j) (entries es k) n (Key i) is =
    ap (λ (b : Bool). not (is_text i j) && not b) (lookup_insert i k n es)
    ∙ apart (is_text i j) (is_text i k) (is_some (lookup (is_at (text_cmp i)) es))

pub tells_next : (g : Head) (p : Part) (n : Node) (seen : List Head) → Tells p seen → goes_with_all g seen ≡ true → Tells (next g p n) (seen ++ g ∷ [])
tells_next g p n seen tells goes h =
    fits_next g p n h (tells g ∙ goes) ∙ ap (λ (b : Bool). b && goes_with h g) (tells h) ∙ sym (all_snoc h seen g)

-- the collection with a node at its open head and all entries after it
abbrev pub collected : Part → Node → Entries → Node
collected (items ns) n es = ListNode (ns ++ n ∷ items_of es)
collected (entries among k) n es = MapNode (put_all (insert_entry text_cmp among k n) es)

pub collected_none : (p : Part) (n : Node) → collected p n no_entries ≡ filled p n
collected_none (items ns) n = refl
collected_none (entries among k) n = refl

pub collected_begun : (h : Head) (t : Tree) (es : Entries) → collected (begun h) (node_of t) es ≡ collection_node (entry h t es)
collected_begun Dash t es = refl
collected_begun (Key k) t es = refl

pub collected_next : (h : Head) (p : Part) (n : Node) (t : Tree) (es : Entries) → fits h p ≡ true → collected (next h p n) (node_of t) es ≡ collected p n (entry h t es)
collected_next Dash (items ns) n t es is = ap ListNode (append_assoc ns (n ∷ []) (node_of t ∷ items_of es))
collected_next Dash (entries among k) n t es is = absurd Prim.cc
collected_next (Key j) (items ns) n t es is = absurd Prim.cc
collected_next (Key j) (entries among k) n t es is = refl
