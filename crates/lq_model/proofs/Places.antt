-- Names that count in the schema of a table.
use Rattle.std.proofs.Common.{Option, Some, None, ap, append_assoc, arith, inl, inr, sym, ◌∙◌}
use Rattle.std.proofs.lemmas.Bool.Decides.{eqb_tells}
use Rattle.std.specs.List.{list_any}
use Rattle.std.specs.Prelude.{Bool, List, [], codes, cond, false, map, refl, true, ℕ, ◌++◌, ◌+◌, ◌||◌, ◌∷◌, ◌⊎◌, ◌≡◌, ◌≢◌, ◌≤◌, ◌==◌}
use Rattle.lq_base.specs.Name.{beside, is_named, parts_of, place_in, place_of}
use Rattle.lq_base.specs.declared.name.Name.{Name}
use Rattle.lq_model.specs.Catalogue.{is_in, times, placed}
use Rattle.lq_model.specs.NameSpaces.{is_tracking, lower}
use Rattle.lq_model.proofs.Lists.{named_itself, or_false, same_name, true_false, whether}
use Rattle.lq_model.proofs.Counts.{once}

first_same : (a b : ℕ) (xs ys : List ℕ) → a ∷ xs ≡ b ∷ ys → a ≡ b
first_same a b xs ys is = ap first is
  where
    first : List ℕ → ℕ
    first [] = a
    first (x ∷ xs) = x

rest_same : (a b : ℕ) (xs ys : List ℕ) → a ∷ xs ≡ b ∷ ys → xs ≡ ys
rest_same a b xs ys is = ap rest is
  where
    rest : List ℕ → List ℕ
    rest [] = []
    rest (x ∷ xs) = xs

after_front : (front a b : List ℕ) → front ++ a ≡ front ++ b → a ≡ b
after_front [] a b is = is
after_front (x ∷ front) a b is = after_front front a b (rest_same x x (front ++ a) (front ++ b) is)

-- in the schema of one table names differ as they do inside it
pub beside_same : (t a b : Name) → is_named (beside t a) (beside t b) ≡ is_named a b
beside_same t a b = whether (is_named a b)
    (λ is. ap (λ x. is_named (beside t a) (beside t x)) (sym (same_name a b is)) ∙ named_itself (beside t a) ∙ sym is)
    (λ apart. whether (is_named (beside t a) (beside t b))
    (λ is. true_false (ap (is_named a) (sym (after_front (place_of t) a b (same_name (beside t a) (beside t b) is))) ∙ named_itself a) apart)
    (λ not. not ∙ sym apart))

-- a name is in a schema or is not
fronted : (front n : List ℕ) → ((m : List ℕ) × (n ≡ front ++ m)) ⊎ ((m : List ℕ) → n ≢ front ++ m)
fronted [] n = inl (n, refl)
fronted (b ∷ front) [] = inr (λ m is. absurd (cc))
fronted (b ∷ front) (x ∷ n) = elim (eqb_tells x b) [
  | inl same ↦ elim (fronted front n) [
    | inl it ↦ inl (it.0, ap (λ z. z ∷ n) same.1 ∙ ap (λ z. b ∷ z) it.1)
    | inr none ↦ inr (λ m is. none m (rest_same x b n (front ++ m) is))
  ]
  | inr other ↦ inr (λ m is. other.1 (first_same x b n (front ++ m) is))
]

pub times_beside : (t m : Name) (ns : List Name) → times (beside t m) (placed t ns) ≡ times m ns
times_beside t m [] = refl
times_beside t m (n ∷ ns) = ap (λ b. cond b 1 0 + times (beside t m) (placed t ns)) (beside_same t m n) ∙ ap (λ k. cond (is_named m n) 1 0 + k) (times_beside t m ns)

times_elsewhere : (t n : Name) (ns : List Name) → ((m : Name) → n ≢ beside t m) → times n (placed t ns) ≡ 0
times_elsewhere t n [] out = refl
times_elsewhere t n (x ∷ ns) out =
    let a : once (is_named n (beside t x)) ≡ 0 = ap once (whether (is_named n (beside t x)) (λ is. absurd (out x (same_name n (beside t x) is))) (λ not. not)) in
    let r = times_elsewhere t n ns out in
    omega (arith, a, r)

-- names that stand there at most as often do so in the schema
pub placed_fewer : (t : Name) (k : ℕ) (xs ys : List Name) → ((n : Name) → times n xs ≤ k + times n ys) → (n : Name) → times n (placed t xs) ≤ k + times n (placed t ys)
placed_fewer t k xs ys fewer n = elim (fronted (place_of t) n) [
  | inl it ↦
      let h = fewer it.0 in
      let a : times n (placed t xs) ≡ times it.0 xs = ap (λ z. times z (placed t xs)) it.1 ∙ times_beside t it.0 xs in
      let b : times n (placed t ys) ≡ times it.0 ys = ap (λ z. times z (placed t ys)) it.1 ∙ times_beside t it.0 ys in
      omega (arith, h, a, b)
  | inr none ↦ let a = times_elsewhere t n xs none in omega (arith, a)
]

pub placed_less : (t : Name) (xs ys : List Name) → ((n : Name) → times n xs ≤ times n ys) → (n : Name) → times n (placed t xs) ≤ times n (placed t ys)
placed_less t xs ys fewer n = let h = placed_fewer t 0 xs ys (λ m. let x = fewer m in omega (arith, x)) n in omega (arith, h)

-- once at most inside is once at most in the schema
pub placed_once : (t : Name) (xs : List Name) → ((n : Name) → times n xs ≤ 1) → (n : Name) → times n (placed t xs) ≤ 1
placed_once t xs few n = let h = placed_fewer t 1 xs [] (λ m. let x = few m in omega (arith, x)) n in omega (arith, h)

-- one name more inside is one more in the schema
pub placed_more : (t m : Name) (xs ys : List Name) → ((n : Name) → times n xs ≡ times n ys + once (is_named n m)) → (n : Name) → times n (placed t xs) ≡ times n (placed t ys) + once (is_named n (beside t m))
placed_more t m xs ys more n = elim (fronted (place_of t) n) [
  | inl it ↦
      let h = more it.0 in
      let a : times n (placed t xs) ≡ times it.0 xs = ap (λ z. times z (placed t xs)) it.1 ∙ times_beside t it.0 xs in
      let b : times n (placed t ys) ≡ times it.0 ys = ap (λ z. times z (placed t ys)) it.1 ∙ times_beside t it.0 ys in
      let c : once (is_named n (beside t m)) ≡ once (is_named it.0 m) = ap (λ z. once (is_named z (beside t m))) it.1 ∙ ap once (beside_same t it.0 m) in
      omega (arith, h, a, b, c)
  | inr none ↦
      let a = times_elsewhere t n xs none in
      let b = times_elsewhere t n ys none in
      let c : once (is_named n (beside t m)) ≡ 0 = ap once (whether (is_named n (beside t m)) (λ is. absurd (none m (same_name n (beside t m) is))) (λ not. not)) in
      omega (arith, a, b, c)
]

pub in_placed : (t m : Name) (ns : List Name) → is_in (beside t m) (placed t ns) ≡ is_in m ns
in_placed t m [] = refl
in_placed t m (n ∷ ns) = ap (λ b. b || is_in (beside t m) (placed t ns)) (beside_same t m n) ∙ ap (λ b. is_named m n || b) (in_placed t m ns)

-- in one schema the names are the same
pub placed_along : (a b : Name) (ns : List Name) → is_named (place_of a) (place_of b) ≡ true → placed a ns ≡ placed b ns
placed_along a b ns is = ap (λ p. map (λ n. p ++ n) ns) (same_name (place_of a) (place_of b) is)

-- what has U+001F is the name of no tracking table

abbrev has_seam : List ℕ → Bool
has_seam = list_any (λ b. b == 31)

seam_lower : (front back : List ℕ) → has_seam (map lower (front ++ 31 ∷ back)) ≡ true
seam_lower [] back = refl
seam_lower (b ∷ front) back = elim (lower b == 31) as (λ x. (x || has_seam (map lower (front ++ 31 ∷ back))) ≡ true) [ true ↦ refl | false ↦ seam_lower front back ]

unnamed_seam : (n m : Name) → has_seam n ≡ true → has_seam m ≡ false → is_named n m ≡ false
unnamed_seam n m has none = whether (is_named n m) (λ is. true_false (ap has_seam (sym (same_name n m is)) ∙ has) none) (λ not. not)

untracked_seam : (front back : List ℕ) → is_tracking (front ++ 31 ∷ back) ≡ false
untracked_seam front back = or_false _ _
    (unnamed_seam (map lower (front ++ 31 ∷ back)) (codes "databasechangelog") (seam_lower front back) refl)
    (unnamed_seam (map lower (front ++ 31 ∷ back)) (codes "databasechangeloglock") (seam_lower front back) refl)

untracked_in : (o : Option (List ℕ × List ℕ)) (n : Name) → is_tracking n ≡ false → is_tracking (place_in o ++ n) ≡ false
untracked_in None n free = free
untracked_in (Some parts) n free = ap is_tracking (append_assoc parts.0 (31 ∷ []) n) ∙ untracked_seam parts.0 n

pub untracked_beside : (t n : Name) → is_tracking n ≡ false → is_tracking (beside t n) ≡ false
untracked_beside t n free = untracked_in (parts_of t) n free
