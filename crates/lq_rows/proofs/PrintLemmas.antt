-- Fingerprints of rows that come and go, and the places that they give.
use Rattle.std.proofs.Common.{Bool, List, Option, Some, [], ap, arith, cond, length, map, nat_eq, refl, slice_get, slice_index_or, slice_set, subst, suc, sym, true, false, zero, ◌+◌, ◌<◌, ◌∙◌, ◌∷◌, ◌≡◌, ◌≤◌, ℕ}
use Rattle.std.proofs.lemmas.Bool.Decides.{nat_tests}
use Rattle.std.proofs.lemmas.List.{length-map}
use Rattle.std.proofs.lemmas.Option.{none-some, same_Some, slice_get-map}
use Rattle.std.specs.List.{All, AllAdjacentBelow, Contains, cons_option, filter, filter_map, remove}
use Rattle.std.specs.Option.{option_map}
use Rattle.lq_base.specs.declared.value.Value.{Value}
use Rattle.lq_base.specs.declared.value.Value.TheVariants as value
use Rattle.lq_model.proofs.Lists.{true_false, whether}
use Rattle.lq_rows.specs.Stored.{ArePlaces, ArePrints, IsFront, fingerprint, places_from, text_print, value_print}

module _ {A B : Type 0} (f : A → B) where
  map_removed : (xs : List A) (at : ℕ) → map f (remove xs at) ≡ remove (map f xs) at
  map_removed [] zero = refl
  map_removed [] (suc at) = refl
  map_removed (x ∷ xs) zero = refl
  map_removed (x ∷ xs) (suc at) = ap (λ more. f x ∷ more) (map_removed xs at)

  map_set : (xs : List A) (at : ℕ) (y : A) → map f (slice_set xs at y) ≡ slice_set (map f xs) at (f y)
  map_set [] zero y = refl
  map_set [] (suc at) y = refl
  map_set (x ∷ xs) zero y = refl
  map_set (x ∷ xs) (suc at) y = ap (λ more. f x ∷ more) (map_set xs at y)

pub prints_removed : (rows : List (List Value)) (prints : Option (List ℕ)) (known new : List ℕ) (at : ℕ) → prints ≡ Some known → new ≡ remove known at → ArePrints rows prints → new ≡ map fingerprint (remove rows at)
prints_removed rows prints known new at is e are = e ∙ ap (λ ps. remove ps at) (subst (ArePrints rows) is are) ∙ sym (map_removed fingerprint rows at)

pub prints_set : (rows : List (List Value)) (prints : Option (List ℕ)) (known new : List ℕ) (at : ℕ) (row : List Value) → prints ≡ Some known → new ≡ slice_set known at (fingerprint row) → ArePrints rows prints → new ≡ map fingerprint (slice_set rows at row)
prints_set rows prints known new at row is e are = e ∙ ap (λ ps. slice_set ps at (fingerprint row)) (subst (ArePrints rows) is are) ∙ sym (map_set fingerprint rows at row)

-- the places rise from n on, and end before n and the number of prints
bounded_if : (is : Bool) (n m : ℕ) (ys : List ℕ) → All (λ at. (n + 1 ≤ at) × (at < n + 1 + m)) ys → All (λ at. (n ≤ at) × (at < n + suc m)) (cond is (n ∷ ys) ys)
bounded_if true n m ys all zero d less = (omega arith, omega arith)
bounded_if true n m ys all (suc k) d less = let one = all k d (omega (arith, less)) in (omega (arith, one.0), omega (arith, one.1))
bounded_if false n m ys all k d less = let one = all k d less in (omega (arith, one.0), omega (arith, one.1))

bounded : (n print : ℕ) (ps : List ℕ) → All (λ at. (n ≤ at) × (at < n + length ps)) (places_from n print ps)
bounded n print [] = λ k d less. absurd (omega (arith, less))
bounded n print (p ∷ ps) = bounded_if (nat_eq p print) n (length ps) (places_from (n + 1) print ps) (bounded (n + 1) print ps)

rising_if : (is : Bool) (n : ℕ) (ys : List ℕ) → All (λ at. n + 1 ≤ at) ys → AllAdjacentBelow (λ a b. a < b) ys (length ys) → AllAdjacentBelow (λ a b. a < b) (cond is (n ∷ ys) ys) (length (cond is (n ∷ ys) ys))
rising_if true n ys all rise zero d less = let next = all 0 d (omega (arith, less)) in omega (arith, next)
rising_if true n ys all rise (suc k) d less =
    let behind : suc (k + 1) ≡ suc k + 1 = omega arith in
    subst (λ i. slice_index_or ys k d < slice_index_or (n ∷ ys) i d) behind (rise k d (omega (arith, less)))
rising_if false n ys all rise k d less = rise k d less

rising : (n print : ℕ) (ps : List ℕ) → AllAdjacentBelow (λ a b. a < b) (places_from n print ps) (length (places_from n print ps))
rising n print [] = λ k d less. absurd (omega (arith, less))
rising n print (p ∷ ps) = rising_if (nat_eq p print) n (places_from (n + 1) print ps) (λ k d less. (bounded (n + 1) print ps k d less).0) (rising (n + 1) print ps)

nat_itself : (n : ℕ) → nat_eq n n ≡ true
nat_itself n = grind (arith, nat_tests)

-- and each place of such a print is one of them
contains_if : (is : Bool) (n x : ℕ) (ys : List ℕ) → Contains ys x → Contains (cond is (n ∷ ys) ys) x
contains_if true n x ys (k, less, is) = (suc k, omega (arith, less), is)
contains_if false n x ys has = has

contains_first : (is : Bool) (n : ℕ) (ys : List ℕ) → is ≡ true → Contains (cond is (n ∷ ys) ys) n
contains_first true n ys e = (0, omega arith, refl)
contains_first false n ys e = absurd (Prim.cc e)

contained : (n print : ℕ) (ps : List ℕ) (at : ℕ) → slice_get ps at ≡ Some print → Contains (places_from n print ps) (n + at)
contained n print [] zero e = absurd (none-some print e)
contained n print [] (suc at) e = absurd (none-some print e)
contained n print (p ∷ ps) zero e =
    let here : n ≡ n + 0 = omega arith in let same : nat_eq p print ≡ true = subst (λ q. nat_eq q print ≡ true) (sym (same_Some p print e)) (nat_itself print) in
    subst (Contains (places_from n print (p ∷ ps))) here (contains_first (nat_eq p print) n (places_from (n + 1) print ps) same)
contained n print (p ∷ ps) (suc at) e =
    let there : n + 1 + at ≡ n + suc at = omega arith in
    subst (Contains (places_from n print (p ∷ ps))) there (contains_if (nat_eq p print) n (n + 1 + at) (places_from (n + 1) print ps) (contained (n + 1) print ps at e))

print_of : (row : List Value) (text : List ℕ) → slice_get row 0 ≡ Some (value.Text text) → fingerprint row ≡ text_print text
print_of [] text e = absurd (none-some (value.Text text) e)
print_of (first ∷ rest) text e = ap value_print (same_Some first (value.Text text) e)

-- the prints of all rows give places of them
pub placed : (text : List ℕ) (rows : List (List Value)) (print : ℕ) (prints places : List ℕ) → print ≡ text_print text → prints ≡ map fingerprint rows → places ≡ places_from 0 print prints → ArePlaces text rows places
placed text rows print prints places of known found =
    let is : places ≡ places_from 0 (text_print text) (map fingerprint rows) = found ∙ ap (λ p. places_from 0 p prints) of ∙ ap (places_from 0 (text_print text)) known in
    let long : length (map fingerprint rows) ≡ length rows = length-map rows fingerprint in subst (ArePlaces text rows) (sym is) record {
      rising = rising 0 (text_print text) (map fingerprint rows);
      within = λ k d less. let below = (bounded 0 (text_print text) (map fingerprint rows) k d less).1 in omega (arith, below, long);
      each = λ at row there begins. let here : 0 + at ≡ at = omega arith in
          subst (Contains (places_from 0 (text_print text) (map fingerprint rows))) here
          (contained 0 (text_print text) (map fingerprint rows) at (slice_get-map fingerprint rows at ∙ ap (option_map fingerprint) there ∙ ap Some (print_of row text begins)));
    }

-- the rows at the places of a print are those that have it
module _ {X : Type 0} (f : ℕ → Option X) where
  found_if : (is : Bool) (n : ℕ) (x : X) (ys : List ℕ) (zs : List X) → f n ≡ Some x → filter_map f ys ≡ zs → filter_map f (cond is (n ∷ ys) ys) ≡ cond is (x ∷ zs) zs
  found_if true n x ys zs here more = ap (λ o. cons_option o (filter_map f ys)) here ∙ ap (λ xs. x ∷ xs) more
  found_if false n x ys zs here more = more

found_rows : (f : ℕ → Option (List Value)) (n print : ℕ) (rows : List (List Value)) → ((i : ℕ) → f (n + i) ≡ slice_get rows i) → filter_map f (places_from n print (map fingerprint rows)) ≡ filter (λ row. nat_eq (fingerprint row) print) rows
found_rows f n print [] same = refl
found_rows f n print (row ∷ rows) same =
    let here : n + 0 ≡ n = omega arith in
    found_if f (nat_eq (fingerprint row) print) n row (places_from (n + 1) print (map fingerprint rows)) (filter (λ row. nat_eq (fingerprint row) print) rows) (ap f (sym here) ∙ same 0)
    (found_rows f (n + 1) print rows (λ i. let there : n + 1 + i ≡ n + suc i = omega arith in ap f there ∙ same (suc i)))

-- of the rows that pass another test too, none is lost
module _ {X : Type 0} (p q : X → Bool) (also : (x : X) → p x ≡ true → q x ≡ true) where
  passed_if : (b : Bool) (x : X) (ys zs : List X) → q x ≡ b → filter p ys ≡ zs → filter p (cond b (x ∷ ys) ys) ≡ cond (p x) (x ∷ zs) zs
  passed_if true x ys zs is more = ap (λ (xs : List X). cond (p x) (x ∷ xs) xs) more
  passed_if false x ys zs not more = more ∙ sym (ap (λ (b : Bool). cond b (x ∷ zs) zs) (whether (p x) (λ is. true_false (also x is) not) (λ no. no)))

  passed_twice : (xs : List X) → filter p (filter q xs) ≡ filter p xs
  passed_twice [] = refl
  passed_twice (x ∷ xs) = passed_if (q x) x (filter q xs) (filter p xs) refl (passed_twice xs)

-- the rows at the places of a text's print are the front for it
pub fronted : (text : List ℕ) (rows found : List (List Value)) (print : ℕ) (prints places : List ℕ) → print ≡ text_print text → prints ≡ map fingerprint rows → places ≡ places_from 0 print prints → found ≡ filter_map (slice_get rows) places → IsFront text rows found
fronted text rows found print prints places of known at is = record {
  same = λ p begins.
      let q : List Value → Bool = λ row. nat_eq (fingerprint row) (text_print text) in
      let all : found ≡ filter q rows = is ∙ ap (filter_map (slice_get rows)) (at ∙ ap (λ n. places_from 0 n prints) of ∙ ap (places_from 0 (text_print text)) known)
      ∙ found_rows (slice_get rows) 0 (text_print text) rows (λ i. let here : 0 + i ≡ i = omega arith in ap (slice_get rows) here) in
      ap (filter p) all ∙ passed_twice p q (λ row takes. ap (λ n. nat_eq n (text_print text)) (print_of row text (begins row takes)) ∙ nat_itself (text_print text)) rows;
}
