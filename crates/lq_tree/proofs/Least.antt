-- In a tree that was read the first unknown key is the least one.
use Rattle.std.proofs.Common.{◌≡◌, ℕ, List, [], ◌∷◌, ◌&&◌, ◌||◌, Bool, true, false, not, cond, Option, Some, None, IfSome, refl, sym, ap, ◌∙◌, rules, Ordering, Less, Equal, Greater, nat_cmp}
use Rattle.std.proofs.lemmas.Cmp.{nat_list_cmp_total}
use Rattle.std.specs.Cmp.Lexicographic.{slice_cmp}
use Rattle.std.specs.List.{list_all}
use Rattle.std.specs.Map.{keys_of, lookup_key}
use Rattle.std.specs.Ordering.{is_lt, ordering_reverse}
use Rattle.lq_tree.specs.declared.node.Node.{Node, Map as MapNode, the_lemmas}
use Rattle.lq_tree.specs.Look.{is_among, map_of, IsLeastUnknown}
use Rattle.lq_tree.specs.Json.{rises, is_tree, IsTree}
use Rattle.lq_tree.proofs.Order.{judged, map_is}

-- whether a key that is below the other is known
abbrev pub is_known_or_above : List (List ℕ) → List ℕ → List ℕ → Bool
is_known_or_above known key k = is_among known k || not (is_lt (slice_cmp nat_cmp k key))

reversed : (o : Ordering) → is_lt o ≡ true → not (is_lt (ordering_reverse o)) ≡ true
reversed Less h = refl
reversed Equal h = absurd Prim.cc
reversed Greater h = absurd Prim.cc

is_itself : (o : Ordering) → o ≡ ordering_reverse o → not (is_lt o) ≡ true
is_itself Less h = absurd Prim.cc
is_itself Equal h = refl
is_itself Greater h = refl

or_right : (a b : Bool) → b ≡ true → (a || b) ≡ true
or_right true b h = refl
or_right false b h = h

not_true : (a : Bool) → not a ≡ false → a ≡ true
not_true true h = refl
not_true false h = absurd Prim.cc

both : (a b : Bool) → a ≡ true → b ≡ true → (a && b) ≡ true
both a b ha hb = rw (ha, hb) refl

left_of : (a b : Bool) → (a && b) ≡ true → a ≡ true
left_of true b h = refl
left_of false b h = h

right_of : (a b : Bool) → (a && b) ≡ true → b ≡ true
right_of true b h = h
right_of false b h = absurd Prim.cc

not_below : (key k : List ℕ) → is_lt (slice_cmp nat_cmp key k) ≡ true → not (is_lt (slice_cmp nat_cmp k key)) ≡ true
not_below key k h = rw (nat_list_cmp_total.antisymm k key) (reversed _ h)

above_all : (known : List (List ℕ)) (key : List ℕ) (ks : List (List ℕ)) → list_all (λ l. is_lt (slice_cmp nat_cmp key l)) ks ≡ true → list_all (is_known_or_above known key) ks ≡ true
above_all known key [] h = refl
above_all known key (k ∷ ks) h =
    both _ _ (or_right _ _ (not_below key k (left_of _ _ h))) (above_all known key ks (right_of _ _ h))

with_first : (known : List (List ℕ)) (k : List ℕ) (ks : List (List ℕ)) (found : Option (List ℕ)) (b : Bool) → is_among known k ≡ b → rises (k ∷ ks) ≡ true
    → IfSome found (λ key. list_all (is_known_or_above known key) ks ≡ true)
    → IfSome (cond (not b) (Some k) found) (λ key. list_all (is_known_or_above known key) (k ∷ ks) ≡ true)
with_first known k ks found false is h rest = both _ _ (or_right _ _ (is_itself _ (nat_list_cmp_total.antisymm k k))) (above_all known k ks (left_of _ _ h))
with_first known k ks None true is h rest = tt
with_first known k ks (Some key) true is h rest = both _ _ (rw is refl) rest

known_below : (known : List (List ℕ)) (es : List (List ℕ × Node)) → rises (keys_of es) ≡ true
    → IfSome (lookup_key (λ k. not (is_among known k)) es) (λ key. list_all (is_known_or_above known key) (keys_of es) ≡ true)
known_below known [] h = tt
known_below known ((k, n) ∷ es) h = with_first known k (keys_of es) _ (is_among known k) refl h (known_below known es (right_of _ _ h))

keys_judged : (es : List (List ℕ × Node)) → keys_of (judged es) ≡ keys_of es
keys_judged [] = refl
keys_judged ((k, n) ∷ es) = ap (λ ks. k ∷ ks) (keys_judged es)

entries_in : (es : List (List ℕ × Node)) → map_of (MapNode es) ≡ Some es
entries_in es = search (rules, the_lemmas)

is_least : (known : List (List ℕ)) (es : List (List ℕ × Node)) (found : Option (List ℕ)) → IfSome found (λ key. list_all (is_known_or_above known key) (keys_of es) ≡ true)
    → IfSome found (IsLeastUnknown known (MapNode es))
is_least known es None h = tt
is_least known es (Some key) h = rw (entries_in es) h

least_of_map : (known : List (List ℕ)) (es : List (List ℕ × Node)) → is_tree (MapNode es) ≡ true
    → IfSome (lookup_key (λ k. not (is_among known k)) es) (IsLeastUnknown known (MapNode es))
least_of_map known es h = is_least known es _ (known_below known es (ap rises (sym (keys_judged es)) ∙ left_of _ _ (sym (map_is es) ∙ h)))

pub least_unknown : (known : List (List ℕ)) (n : Node) (es : List (List ℕ × Node)) (found : Option (List ℕ)) → n ≡ MapNode es
    → found ≡ lookup_key (λ k. not (is_among known k)) es → IsTree n → IfSome found (IsLeastUnknown known n)
least_unknown known n es found is at tree = rw (is, at) (least_of_map known es (ap is_tree (sym is) ∙ tree))
