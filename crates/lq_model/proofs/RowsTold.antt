-- Keys that differ are told by their pairs.
use Rattle.std.proofs.Common.{ap, sym, ◌∙◌}
use Rattle.std.specs.Prelude.{Bool, List, None, Option, Some, [], false, map, refl, true, ℕ, ◌||◌, ◌∷◌, ◌≡◌}
use Rattle.lq_base.specs.Name.{is_named}
use Rattle.lq_model.specs.Changes.{CanonicalPairs, CanonicalValue, no_pairs, pair}
use Rattle.lq_model.specs.Catalogue.{is_in, repeats}
use Rattle.lq_model.proofs.Lists.{named_itself, or_left, or_right, true_false}
use Rattle.lq_model.specs.TakesBack.{Row, pair_if, pairs_of}

abbrev key_names : List Row → List (List ℕ)
key_names rows = map (λ row. row.0) rows

same_key : {k l : List ℕ} {v w : CanonicalValue} {p q : CanonicalPairs} → pair k v p ≡ pair l w q → k ≡ l
same_key e = Prim.cc

same_value : {k l : List ℕ} {v w : CanonicalValue} {p q : CanonicalPairs} → pair k v p ≡ pair l w q → v ≡ w
same_value e = Prim.cc

same_rest : {k l : List ℕ} {v w : CanonicalValue} {p q : CanonicalPairs} → pair k v p ≡ pair l w q → p ≡ q
same_rest e = Prim.cc

not_none : {k : List ℕ} {v : CanonicalValue} {p : CanonicalPairs} → no_pairs ≡ pair k v p → ⊥
not_none e = Prim.cc

same_head : {x y : List ℕ} {xs ys : List (List ℕ)} → x ∷ xs ≡ y ∷ ys → x ≡ y
same_head e = Prim.cc

same_tail : {x y : List ℕ} {xs ys : List (List ℕ)} → x ∷ xs ≡ y ∷ ys → xs ≡ ys
same_tail e = Prim.cc

-- the key that leads the pairs is one of the rows'
leads : (k : List ℕ) (v : CanonicalValue) (p : CanonicalPairs) (rows : List Row) → pairs_of rows ≡ pair k v p → is_in k (key_names rows) ≡ true
leads k v p [] e = absurd (not_none e)
leads k v p (row ∷ rows) e = elim row.1 as (λ o. pair_if row.0 o (pairs_of rows) ≡ pair k v p → (is_named k row.0 || is_in k (key_names rows)) ≡ true) [
  | None ↦ λ h. rest (is_named k row.0) (leads k v p rows h)
  | Some w ↦ λ h. first (is_in k (key_names rows)) (ap (is_named k) (same_key h) ∙ named_itself k)
] e where
  rest : (b : Bool) {c : Bool} → c ≡ true → (b || c) ≡ true
  rest true h = refl
  rest false h = h

  first : (c : Bool) {b : Bool} → b ≡ true → (b || c) ≡ true
  first c h = rw h refl

row_is : (x y : Row) → x.0 ≡ y.0 → x.1 ≡ y.1 → x ≡ y
row_is x y i j = rw (i, j) refl

rows_are : (x y : Row) (xs ys : List Row) → x.0 ≡ y.0 → x.1 ≡ y.1 → xs ≡ ys → x ∷ xs ≡ y ∷ ys
rows_are x y xs ys i j l = ap (λ z. z ∷ xs) (row_is x y i j) ∙ ap (λ zs. y ∷ zs) l

first_told : (r o : Row) (rs os : List Row) → r.0 ≡ o.0 → is_in o.0 (key_names rs) ≡ false → is_in r.0 (key_names os) ≡ false → (pairs_of rs ≡ pairs_of os → rs ≡ os) → pairs_of (r ∷ rs) ≡ pairs_of (o ∷ os) → r ∷ rs ≡ o ∷ os
first_told r o rs os key out there later e = by r.1 o.1 refl refl e where
  by : (v w : Option CanonicalValue) → r.1 ≡ v → o.1 ≡ w → pair_if r.0 v (pairs_of rs) ≡ pair_if o.0 w (pairs_of os) → r ∷ rs ≡ o ∷ os
  by None None a b h = rows_are r o rs os key (a ∙ sym b) (later h)
  by (Some v) (Some w) a b h = rows_are r o rs os key (a ∙ ap (λ x. Some x) (same_value h) ∙ sym b) (later (same_rest h))
  by None (Some w) a b h = true_false (leads o.0 w (pairs_of os) rs h) out
  by (Some v) None a b h = true_false (leads r.0 v (pairs_of rs) os (sym h)) there

pub rows_told : (rows others : List Row) → key_names rows ≡ key_names others → repeats (key_names rows) ≡ false → pairs_of rows ≡ pairs_of others → rows ≡ others
rows_told [] [] names apart e = refl
rows_told [] (o ∷ os) names apart e = absurd Prim.cc
rows_told (r ∷ rs) [] names apart e = absurd Prim.cc
rows_told (r ∷ rs) (o ∷ os) names apart e =
    let out : is_in r.0 (key_names rs) ≡ false = or_left (is_in r.0 (key_names rs)) _ apart in
    first_told r o rs os (same_head names) (ap (λ k. is_in k (key_names rs)) (sym (same_head names)) ∙ out) (ap (is_in r.0) (sym (same_tail names)) ∙ out) (λ h. rows_told rs os (same_tail names) (or_right (is_in r.0 (key_names rs)) _ apart) h) e
