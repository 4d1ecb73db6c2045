-- Items by their numbers.
use Rattle.std.proofs.Common.{ap, arith, sym, ◌∙◌}
use Rattle.std.proofs.lemmas.Bool.{eq-eqb, eqb-true}
use Rattle.std.specs.List.{list_all, list_any}
use Rattle.std.specs.Prelude.{Bool, List, None, Option, Some, [], cond, false, length, map, nat_lt, refl, slice_get, suc, true, zero, ℕ, ◌+◌, ◌++◌, ◌<◌, ◌==◌, ◌||◌, ◌∷◌, ◌≡◌}
use Rattle.lq_model.proofs.Lists.{and_true, whether}
use Rattle.lq_model.proofs.Maps.{not_some, some_same}
use Rattle.lq_deletes.specs.Places.{numbered, AreMarks, are_below, children_of, is_marked}

pub or_none : (b : Bool) → (b || false) ≡ b
or_none true = refl
or_none false = refl

module _ {A : Type 0} where
  -- the item of the number, where they are counted from n on
  abbrev pub item_at : ℕ → List A → ℕ → Option A
  item_at n [] y = None
  item_at n (x ∷ xs) y = cond (y == n) (Some x) (item_at (n + 1) xs y)

  -- there is one, and it passes
  abbrev pub passes : (A → Bool) → Option A → Bool
  passes p None = false
  passes p (Some x) = p x

  pub item_before : (n : ℕ) (xs : List A) (y : ℕ) → y < n → item_at n xs y ≡ None
  item_before n [] y less = refl
  item_before n (x ∷ xs) y less = ap (λ b. cond b (Some x) (item_at (n + 1) xs y)) (other (y == n) refl) ∙ item_before (n + 1) xs y (omega (arith, less)) where
    other : (b : Bool) → (y == n) ≡ b → (y == n) ≡ false
    other true is = let same = eqb-true y n is in absurd (omega (arith, less, same))
    other false is = is

  pub item_get : (n : ℕ) (xs : List A) (y m : ℕ) → m ≡ n + y → item_at n xs m ≡ slice_get xs y
  item_get n [] y m is = refl
  item_get n (x ∷ xs) zero m is = ap (λ b. cond b (Some x) (item_at (n + 1) xs m)) (eq-eqb m n (let same : m ≡ n = omega (arith, is) in same))
  item_get n (x ∷ xs) (suc y) m is = ap (λ b. cond b (Some x) (item_at (n + 1) xs m)) (other (m == n) refl) ∙ item_get (n + 1) xs y m (let same : m ≡ n + 1 + y = omega (arith, is) in same) where
    other : (b : Bool) → (m == n) ≡ b → (m == n) ≡ false
    other true e = let same = eqb-true m n e in absurd (omega (arith, is, same))
    other false e = e

  pub passes_append : (p : A → Bool) (n : ℕ) (xs ys : List A) (m y : ℕ) → m ≡ n + length xs → passes p (item_at n (xs ++ ys) y) ≡ (passes p (item_at n xs y) || passes p (item_at m ys y))
  passes_append p n [] ys m y is = ap (λ k. passes p (item_at k ys y)) (let same : n ≡ m = omega (arith, is) in same)
  passes_append p n (x ∷ xs) ys m y is = whether (y == n)
      (λ here.
      let same = eqb-true y n here in
      let later = item_before m ys y (omega (arith, is, same)) in
      ap (λ b. passes p (cond b (Some x) (item_at (n + 1) (xs ++ ys) y))) here
      ∙ sym (or_none (p x))
      ∙ ap (λ o. p x || passes p o) (sym later)
      ∙ ap (λ b. passes p (cond b (Some x) (item_at (n + 1) xs y)) || passes p (item_at m ys y)) (sym here))
      (λ other.
      ap (λ b. passes p (cond b (Some x) (item_at (n + 1) (xs ++ ys) y))) other
      ∙ passes_append p (n + 1) xs ys m y (let same : m ≡ n + 1 + length xs = omega (arith, is) in same)
      ∙ ap (λ b. passes p (cond b (Some x) (item_at (n + 1) xs y)) || passes p (item_at m ys y)) (sym other))

  pub passes_none : (o : Option A) → passes (λ x. false) o ≡ false
  passes_none None = refl
  passes_none (Some x) = refl

  pub passes_both : (p q : A → Bool) (o : Option A) → (passes p o || passes q o) ≡ passes (λ x. p x || q x) o
  passes_both p q None = refl
  passes_both p q (Some x) = refl

  pub passes_same : (p q : A → Bool) (o : Option A) → ((x : A) → p x ≡ q x) → passes p o ≡ passes q o
  passes_same p q None same = refl
  passes_same p q (Some x) same = same x

  -- the numbers of those that pass
  pub numbered_at : (test : A → Bool) (n : ℕ) (xs : List A) (y : ℕ) → list_any (λ z. y == z) (numbered test n xs) ≡ passes test (item_at n xs y)
  numbered_at test n [] y = refl
  numbered_at test n (x ∷ xs) y = whether (y == n)
      (λ is.
      let same = eqb-true y n is in
      by (test x) is (numbered_at test (n + 1) xs y ∙ ap (passes test) (item_before (n + 1) xs y (omega (arith, same))))
      ∙ ap (λ b. passes test (cond b (Some x) (item_at (n + 1) xs y))) (sym is))
      (λ other.
      past (test x) other
      ∙ numbered_at test (n + 1) xs y
      ∙ ap (λ b. passes test (cond b (Some x) (item_at (n + 1) xs y))) (sym other)) where
        by : (b : Bool) → (y == n) ≡ true → list_any (λ z. y == z) (numbered test (n + 1) xs) ≡ false → list_any (λ z. y == z) (cond b (n ∷ numbered test (n + 1) xs) (numbered test (n + 1) xs)) ≡ b
        by true is none = ap (λ e. e || list_any (λ z. y == z) (numbered test (n + 1) xs)) is
        by false is none = none

        past : (b : Bool) → (y == n) ≡ false → list_any (λ z. y == z) (cond b (n ∷ numbered test (n + 1) xs) (numbered test (n + 1) xs)) ≡ list_any (λ z. y == z) (numbered test (n + 1) xs)
        past true other = ap (λ e. e || list_any (λ z. y == z) (numbered test (n + 1) xs)) other
        past false other = refl

  pub get_within : (xs : List A) (y : ℕ) (a : A) → slice_get xs y ≡ Some a → y < length xs
  get_within [] y a h = not_some (sym h)
  get_within (x ∷ xs) zero a h = omega arith
  get_within (x ∷ xs) (suc y) a h = let less = get_within xs y a h in omega (arith, less)

  pub passes_within : (test : A → Bool) (xs : List A) (y : ℕ) → passes test (slice_get xs y) ≡ true → y < length xs
  passes_within test xs y h = at (slice_get xs y) refl h where
    at : (o : Option A) → slice_get xs y ≡ o → passes test o ≡ true → y < length xs
    at None is some = absurd (Prim.cc some)
    at (Some a) is some = get_within xs y a is

  -- marks by a test
  pub marked_by : (test : A → Bool) (xs : List A) (x : ℕ) (a : A) → slice_get xs x ≡ Some a → is_marked (map test xs) x ≡ test a
  marked_by test [] x a h = not_some (sym h)
  marked_by test (z ∷ xs) zero a h = ap test (some_same h)
  marked_by test (z ∷ xs) (suc x) a h = marked_by test xs x a h

pub passes_map : {A B : Type 0} (p : B → Bool) (f : A → B) (n : ℕ) (xs : List A) (y : ℕ) → passes p (item_at n (map f xs) y) ≡ passes (λ x. p (f x)) (item_at n xs y)
passes_map p f n [] y = refl
passes_map p f n (x ∷ xs) y = whether (y == n)
    (λ is. ap (λ b. passes p (cond b (Some (f x)) (item_at (n + 1) (map f xs) y))) is ∙ ap (λ b. passes (λ z. p (f z)) (cond b (Some x) (item_at (n + 1) xs y))) (sym is))
    (λ other. ap (λ b. passes p (cond b (Some (f x)) (item_at (n + 1) (map f xs) y))) other ∙ passes_map p f (n + 1) xs y ∙ ap (λ b. passes (λ z. p (f z)) (cond b (Some x) (item_at (n + 1) xs y))) (sym other))

-- all that stand in a list of numbers
pub all_of : (holds : ℕ → Bool) (xs : List ℕ) → ((y : ℕ) → list_any (λ z. y == z) xs ≡ true → holds y ≡ true) → list_all holds xs ≡ true
all_of holds [] h = refl
all_of holds (x ∷ xs) h = and_true _ _ (h x (ap (λ b. b || list_any (λ z. x == z) xs) (eq-eqb x x refl))) (all_of holds xs (λ y k. h y (after (y == x) k))) where
  after : (b : Bool) {c : Bool} → c ≡ true → (b || c) ≡ true
  after true k = refl
  after false k = k

below : (y n : ℕ) → y < n → nat_lt y n ≡ true
below y n less = grind (arith, less)

-- the marked nodes

abbrev pub standing : List Bool → List ℕ
standing marks = numbered (λ mark. mark) 0 marks

stands : (marks : List Bool) (x : ℕ) → list_any (λ w. x == w) (standing marks) ≡ passes (λ mark. mark) (slice_get marks x)
stands marks x = numbered_at (λ mark. mark) 0 marks x ∙ ap (passes (λ mark. mark)) (item_get 0 marks x x (let same : x ≡ 0 + x = omega arith in same))

pub standing_are : (marks : List Bool) → AreMarks (standing marks) marks
standing_are marks x = sym (stands marks x ∙ at marks x) where
  at : (ms : List Bool) (y : ℕ) → passes (λ mark. mark) (slice_get ms y) ≡ is_marked ms y
  at [] y = refl
  at (m ∷ ms) zero = refl
  at (m ∷ ms) (suc y) = at ms y

pub standing_below : (marks : List Bool) → are_below (length marks) (standing marks) ≡ true
standing_below marks = all_of (λ y. nat_lt y (length marks)) (standing marks) (λ y h. below y (length marks) (passes_within (λ mark. mark) marks y (sym (stands marks y) ∙ h)))

-- edges to nodes below n
pub edges_below : (n : ℕ) (edges : List (List ℕ)) → ((x y : ℕ) → list_any (λ z. y == z) (children_of edges x) ≡ true → y < n) → list_all (are_below n) edges ≡ true
edges_below n [] inside = refl
edges_below n (ys ∷ edges) inside = and_true _ _ (all_of (λ y. nat_lt y n) ys (λ y h. below y n (inside zero y h))) (edges_below n edges (λ x y h. inside (suc x) y h))
