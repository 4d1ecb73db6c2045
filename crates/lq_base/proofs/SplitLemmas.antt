-- A list that is split at the first byte of a kind.
use Rattle.std.proofs.Common.{◌≡◌, ℕ, ◌+◌, ◌-◌, ◌<◌, Bool, true, false, not, cond, ltb, eqb, List, [], ◌∷◌, ◌++◌, length, take, drop, get_or, refl, ap, ap₂, ◌∙◌, sym, arith, rules, tests, true≢false, one-add}
use Rattle.std.specs.List.{list_all, list_any, position_or_len, before_first, after_first}
use Rattle.std.proofs.Math.Seq.{take-append_seam, drop-append-add, get_or-append_seam}
use Rattle.std.proofs.lemmas.Bool.{and_parts, or_parts, or_from, eqb-true, eq-eqb, lt-ltb, cond-true}
use Rattle.std.proofs.lemmas.List.{length-append, take_all}
use Rattle.std.proofs.lemmas.Grind.{take_at_read}
use Rattle.std.proofs.lemmas.List.Folds.{list_any-append}
use Rattle.std.proofs.lemmas.List.Sums.{split_at_first, passes_at_first}

-- the byte does not stand in the text
abbrev pub Lacks : ℕ → List ℕ → Type 0
Lacks c text = list_any (λ b. eqb b c) text ≡ false

abbrev pub place : ℕ → List ℕ → ℕ
place c text = position_or_len (λ b. eqb b c) text

-- where each byte passes a test that the byte does not
pub lacks_from_all : (p : ℕ → Bool) (c : ℕ) → p c ≡ false → (xs : List ℕ) → list_all p xs ≡ true → Lacks c xs
lacks_from_all p c not_c [] h = refl
lacks_from_all p c not_c (x ∷ xs) h =
    let parts = and_parts (p x) (list_all p xs) h in
    or_from (eqb x c) (list_any (λ b. eqb b c) xs) (by (eqb x c) refl parts.0) (lacks_from_all p c not_c xs parts.1)
  where
    by : (is : Bool) → eqb x c ≡ is → p x ≡ true → is ≡ false
    by true e q = absurd (true≢false (sym q ∙ ap p (eqb-true x c e) ∙ not_c))
    by false e q = refl

pub lacks-append : (c : ℕ) (xs ys : List ℕ) → Lacks c xs → Lacks c ys → Lacks c (xs ++ ys)
lacks-append c xs ys p q = list_any-append (λ b. eqb b c) xs ys ∙ or_from _ _ p q

-- the first that passes stands after a list of which none does
pub place-append : {X : Type 0} (p : X → Bool) (xs : List X) (y : X) (ys : List X) → list_any p xs ≡ false → p y ≡ true → position_or_len p (xs ++ y ∷ ys) ≡ length xs
place-append p [] y ys h e = rw e refl
place-append p (x ∷ xs) y ys h e =
    let parts = or_parts (p x) (list_any p xs) h in
    rw parts.0 (omega (arith, place-append p xs y ys parts.1 e))

-- and where none does, there is none
pub place-none : {X : Type 0} (p : X → Bool) (xs : List X) → list_any p xs ≡ false → position_or_len p xs ≡ length xs
place-none p [] h = refl
place-none p (x ∷ xs) h =
    let parts = or_parts (p x) (list_any p xs) h in
    rw parts.0 (omega (arith, place-none p xs parts.1))

-- where each passes, none fails
pub none_from_all : {X : Type 0} (q : X → Bool) (xs : List X) → list_all q xs ≡ true → list_any (λ x. not (q x)) xs ≡ false
none_from_all q [] h = refl
none_from_all q (x ∷ xs) h =
    let parts = and_parts (q x) (list_all q xs) h in
    or_from (not (q x)) (list_any (λ x. not (q x)) xs) (ap not parts.0) (none_from_all q xs parts.1)

-- those before the first that fails all pass
pub all_before : {X : Type 0} (q : X → Bool) (xs : List X) → list_all q (take (position_or_len (λ x. not (q x)) xs) xs) ≡ true
all_before q [] = refl
all_before q (x ∷ xs) = by (all_before q xs) (q x) refl
  where
    by : list_all q (take (position_or_len (λ x. not (q x)) xs) xs) ≡ true → (is : Bool) → q x ≡ is → list_all q (take (cond (not (not is)) (1 + position_or_len (λ x. not (q x)) xs) 0) (x ∷ xs)) ≡ true
    by rest true e = rw (one-add, e) rest
    by rest false e = refl

pub split_found : (c : ℕ) (xs ys : List ℕ) → Lacks c xs → ltb (place c (xs ++ c ∷ ys)) (length (xs ++ c ∷ ys)) ≡ true
split_found c xs ys h = lt-ltb _ _ (omega (arith, place-append (λ b. eqb b c) xs c ys h (eq-eqb c c refl), length-append xs (c ∷ ys)))

pub split_before : (c : ℕ) (xs ys : List ℕ) → Lacks c xs → before_first (λ b. eqb b c) (xs ++ c ∷ ys) ≡ xs
split_before c xs ys h = ap (λ n. take n (xs ++ c ∷ ys)) (place-append (λ b. eqb b c) xs c ys h (eq-eqb c c refl)) ∙ take-append_seam xs (c ∷ ys)

pub split_after : (c : ℕ) (xs ys : List ℕ) → Lacks c xs → after_first (λ b. eqb b c) (xs ++ c ∷ ys) ≡ ys
split_after c xs ys h = ap (λ n. drop (n + 1) (xs ++ c ∷ ys)) (place-append (λ b. eqb b c) xs c ys h (eq-eqb c c refl)) ∙ drop-append-add xs (c ∷ ys) 1

-- none is found in a text without one
pub split_none : (c : ℕ) (xs : List ℕ) → Lacks c xs → ltb (place c xs) (length xs) ≡ false
split_none c xs h = rw (place-none (λ b. eqb b c) xs h) (search (rules, tests))

-- what was found is the byte, between what stands before it and after it
pub split_place : (c : ℕ) (xs : List ℕ) → place c xs < length xs → xs ≡ before_first (λ b. eqb b c) xs ++ c ∷ after_first (λ b. eqb b c) xs
split_place c xs h =
    let byte : get_or xs (place c xs) 0 ≡ c = eqb-true _ _ (passes_at_first (λ b. eqb b c) xs 0 h) in
    split_at_first (λ b. eqb b c) xs 0 h ∙ ap (λ b. before_first (λ b. eqb b c) xs ++ b ∷ after_first (λ b. eqb b c) xs) byte

-- what is made of the two parts
pub at_split : {A : Type 0} (f : List ℕ → List ℕ → A) (other : A) (c : ℕ) (xs ys : List ℕ) → Lacks c xs
    → cond (ltb (place c (xs ++ c ∷ ys)) (length (xs ++ c ∷ ys))) (f (before_first (λ b. eqb b c) (xs ++ c ∷ ys)) (after_first (λ b. eqb b c) (xs ++ c ∷ ys))) other ≡ f xs ys
at_split f other c xs ys h = cond-true _ _ _ (split_found c xs ys h) ∙ ap₂ f (split_before c xs ys h) (split_after c xs ys h)

-- what is made of a list that ends with a byte
pub at_last : {A : Type 0} (f : List ℕ → A) (other : A) (c : ℕ) (xs : List ℕ)
    → cond (eqb (get_or (xs ++ c ∷ []) (length (xs ++ c ∷ []) - 1) 0) c) (f (take (length (xs ++ c ∷ []) - 1) (xs ++ c ∷ []))) other ≡ f xs
at_last f other c xs =
    let end : length (xs ++ c ∷ []) - 1 ≡ length xs = omega (arith, length-append xs (c ∷ [])) in
    let byte : get_or (xs ++ c ∷ []) (length (xs ++ c ∷ []) - 1) 0 ≡ c = ap (λ n. get_or (xs ++ c ∷ []) n 0) end ∙ get_or-append_seam xs c [] 0 in
    cond-true _ _ _ (eq-eqb _ _ byte) ∙ ap f (ap (λ n. take n (xs ++ c ∷ [])) end ∙ take-append_seam xs (c ∷ []))

-- a list is what stands before its last byte, and that byte
pub last_is : (c : ℕ) (xs : List ℕ) → 0 < c → get_or xs (length xs - 1) 0 ≡ c → xs ≡ take (length xs - 1) xs ++ c ∷ []
last_is c [] some e = absurd (omega (arith, e))
last_is c (x ∷ xs) some e =
    let more = (take_at_read (x ∷ xs) (length (x ∷ xs) - 1) 0 (omega arith)).1 in
    let whole : take (length (x ∷ xs) - 1 + 1) (x ∷ xs) ≡ x ∷ xs = take_all _ _ (omega arith) in
    sym whole ∙ more ∙ ap (λ b. take (length (x ∷ xs) - 1) (x ∷ xs) ++ b ∷ []) e
