-- A value is passed as a whole.
use Rattle.std.proofs.Common.{◌≡◌, ℕ, suc, ◌+◌, ◌<◌, ◌==◌, ◌||◌, Bool, true, false, cond, List, [], ◌∷◌, ◌++◌, drop, Option, Some, option_and_then, refl, sym, ap, ◌∙◌, arith, tests, append_assoc}
use Rattle.lq_model.specs.Changes.{CanonicalPairs, CanonicalValue, CanonicalValues, atom, canonical, canonical_pairs, canonical_values, list, map_of, no_pairs, no_values, number, pair, signed_numeral, text, truth, value}
use Rattle.lq_canon.specs.Passing.{atom_at, behind, behind_atom, closed, is_before_atom, is_closing, is_opening, passed}
use Rattle.lq_canon.proofs.AtomRead.{atom_read, begins}

-- how many steps a value takes
abbrev mutual
  pub steps_of : CanonicalValue → ℕ
  steps_of (text t) = 1
  steps_of (number n) = 1
  steps_of (truth b) = 1
  steps_of (list vs) = 2 + values_steps vs
  steps_of (map_of ps) = 2 + pairs_steps ps

  pub values_steps : CanonicalValues → ℕ
  values_steps no_values = 0
  values_steps (value v vs) = steps_of v + values_steps vs

  pub pairs_steps : CanonicalPairs → ℕ
  pairs_steps no_pairs = 0
  pairs_steps (pair k v ps) = suc (steps_of v + pairs_steps ps)

plus_suc : (a b : ℕ) → a + suc b ≡ suc (a + b)
plus_suc a b = omega arith

plus_plus : (a b c : ℕ) → a + b + c ≡ a + (b + c)
plus_plus a b c = omega arith

-- a byte below `:` is no bracket and no mark
digit_apart : (b : ℕ) → b < 59 → (is_opening b ≡ false) × (is_closing b ≡ false) × ((b == 98) ≡ false) × ((b == 116 || b == 110) ≡ false)
digit_apart b h = (apart b 91 123 h (omega arith) (omega arith), apart b 93 125 h (omega arith) (omega arith), one b 98 h (omega arith), apart b 116 110 h (omega arith) (omega arith)) where
  one : (b m : ℕ) → b < 59 → 58 < m → (b == m) ≡ false
  one b m h g = grind (arith, tests)

  apart : (b m n : ℕ) → b < 59 → 58 < m → 58 < n → (b == m || b == n) ≡ false
  apart b m n h g k = grind (arith, tests)

-- on behind an atom
abbrev on_behind : ℕ → ℕ → Option (List ℕ × List ℕ) → Option (List ℕ)
on_behind steps depth atom = option_and_then (λ p. behind (passed steps) p.0 p.1) (behind_atom depth atom)

-- a key is passed
key_passed : (k x : List ℕ) (steps depth : ℕ) → passed (suc steps) depth (atom k ++ x) ≡ behind (passed steps) depth x
key_passed k x steps depth =
    let first = begins k x in
    let b = first.0 in
    let apart = digit_apart b first.4 in
    ap (passed (suc steps) depth) first.2
    ∙ ap (option_and_then (λ p. behind (passed steps) p.0 p.1)) (by (is_opening b) (is_closing b) (b == 98) (is_before_atom b) b first.1 depth apart.0 apart.1 apart.2 apart.3)
    ∙ ap (λ l. on_behind steps depth (atom_at l)) (sym first.2)
    ∙ ap (on_behind steps depth) (atom_read k x)
  where
    by : (o c t m : Bool) (b : ℕ) (bs : List ℕ) (depth : ℕ) → o ≡ false → c ≡ false → t ≡ false → m ≡ false
        → cond o (Some (suc depth, bs)) (cond c (closed depth bs) (cond t (Some (depth, drop 1 bs)) (cond m (behind_atom depth (atom_at bs)) (behind_atom depth (atom_at (b ∷ bs))))))
        ≡ behind_atom depth (atom_at (b ∷ bs))
    by o c t m b bs depth p q r s = rw (p, q, r, s) refl

mutual
  pub value_passed : (v : CanonicalValue) (x : List ℕ) (n steps depth : ℕ) → n ≡ steps_of v + steps → passed n depth (canonical v ++ x) ≡ behind (passed steps) depth x
  value_passed (text t) x n steps depth e =
      let one : n ≡ suc steps = omega (arith, e) in
      ap (λ m. passed m depth (canonical (text t) ++ x)) one ∙ ap (on_behind steps depth) (atom_read t x)
  value_passed (number z) x n steps depth e =
      let one : n ≡ suc steps = omega (arith, e) in
      ap (λ m. passed m depth (canonical (number z) ++ x)) one ∙ ap (on_behind steps depth) (atom_read (signed_numeral z) x)
  value_passed (truth false) x n steps depth e =
      let one : n ≡ suc steps = omega (arith, e) in
      ap (λ m. passed m depth (canonical (truth false) ++ x)) one
  value_passed (truth true) x n steps depth e =
      let one : n ≡ suc steps = omega (arith, e) in
      ap (λ m. passed m depth (canonical (truth true) ++ x)) one
  value_passed (list vs) x n steps depth e =
      let one : n ≡ suc (values_steps vs + suc steps) = omega (arith, e) in
      ap (λ m. passed m depth (canonical (list vs) ++ x)) one
      ∙ ap (passed (values_steps vs + suc steps) (suc depth)) (append_assoc (canonical_values vs) (93 ∷ []) x)
      ∙ values_passed vs (93 ∷ x) (values_steps vs + suc steps) (suc steps) depth refl
  value_passed (map_of ps) x n steps depth e =
      let one : n ≡ suc (pairs_steps ps + suc steps) = omega (arith, e) in
      ap (λ m. passed m depth (canonical (map_of ps) ++ x)) one
      ∙ ap (passed (pairs_steps ps + suc steps) (suc depth)) (append_assoc (canonical_pairs ps) (125 ∷ []) x)
      ∙ pairs_passed ps (125 ∷ x) (pairs_steps ps + suc steps) (suc steps) depth refl

  pub values_passed : (vs : CanonicalValues) (x : List ℕ) (n steps depth : ℕ) → n ≡ values_steps vs + steps → passed n (suc depth) (canonical_values vs ++ x) ≡ passed steps (suc depth) x
  values_passed no_values x n steps depth e =
      let none : n ≡ steps = omega (arith, e) in
      ap (λ m. passed m (suc depth) x) none
  values_passed (value v vs) x n steps depth e =
      ap (passed n (suc depth)) (append_assoc (canonical v) (canonical_values vs) x)
      ∙ value_passed v (canonical_values vs ++ x) n (values_steps vs + steps) (suc depth) (omega (arith, e))
      ∙ values_passed vs x (values_steps vs + steps) steps depth refl

  pub pairs_passed : (ps : CanonicalPairs) (x : List ℕ) (n steps depth : ℕ) → n ≡ pairs_steps ps + steps → passed n (suc depth) (canonical_pairs ps ++ x) ≡ passed steps (suc depth) x
  pairs_passed no_pairs x n steps depth e =
      let none : n ≡ steps = omega (arith, e) in
      ap (λ m. passed m (suc depth) x) none
  pairs_passed (pair k v ps) x n steps depth e =
      let one : n ≡ suc (steps_of v + (pairs_steps ps + steps)) = omega (arith, e) in
      ap (passed n (suc depth)) (append_assoc (atom k ++ canonical v) (canonical_pairs ps) x ∙ append_assoc (atom k) (canonical v) (canonical_pairs ps ++ x))
      ∙ ap (λ m. passed m (suc depth) (atom k ++ (canonical v ++ (canonical_pairs ps ++ x)))) one
      ∙ key_passed k (canonical v ++ (canonical_pairs ps ++ x)) (steps_of v + (pairs_steps ps + steps)) (suc depth)
      ∙ value_passed v (canonical_pairs ps ++ x) (steps_of v + (pairs_steps ps + steps)) (pairs_steps ps + steps) (suc depth) refl
      ∙ pairs_passed ps x (pairs_steps ps + steps) steps depth refl
