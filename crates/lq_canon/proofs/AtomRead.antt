-- An atom is read as its text.
use Rattle.std.proofs.Common.{◌≡◌, ℕ, suc, ◌+◌, ◌-◌, ◌*◌, ◌<◌, ◌==◌, true, false, List, [], ◌∷◌, ◌++◌, map, length, take, drop, Some, option_and_then, refl, ap, ◌∙◌, arith, tests, append_assoc}
use Rattle.std.specs.Int.Digits.{AllBelowBase, number_from_digits_after}
use Rattle.std.specs.Prelude.{nat_le, nat_lt}
use Rattle.lq_model.proofs.Numerals.{digits_below_ten, number_of_digits}
use Rattle.lq_model.specs.Changes.{atom, decimal_digits, numeral}
use Rattle.lq_canon.specs.Passing.{atom_at, number_at, split}

no_colon : (d : ℕ) → d < 10 → (48 + d == 58) ≡ false
no_colon d h = grind (arith, tests)

from_zero : (d : ℕ) → d < 10 → nat_le 48 (48 + d) ≡ true
from_zero d h = grind (arith, tests)

to_nine : (d : ℕ) → d < 10 → nat_lt (48 + d) 58 ≡ true
to_nine d h = grind (arith, tests)

digit_is : (d : ℕ) → 48 + d - 48 ≡ d
digit_is d = omega arith

pub digits_read : (n : ℕ) (ds rest : List ℕ) → AllBelowBase 10 ds → number_at n (map (λ digit. 48 + digit) ds ++ 58 ∷ rest) ≡ Some (number_from_digits_after 10 n ds, rest)
digits_read n [] rest h = refl
digits_read n (d ∷ ds) rest h = rw (no_colon d h.0, from_zero d h.0, to_nine d h.0, digit_is d) (digits_read (n * 10 + d) ds rest h.1)

pub numeral_read : (n : ℕ) (rest : List ℕ) → number_at 0 (numeral n ++ 58 ∷ rest) ≡ Some (n, rest)
unfolding numeral
numeral_read n rest = digits_read 0 (decimal_digits n) rest (digits_below_ten n) ∙ ap (λ m. Some (m, rest)) (number_of_digits n)

take_front : (t x : List ℕ) → take (length t) (t ++ x) ≡ t
take_front [] x = refl
take_front (b ∷ t) x = ap (λ l. b ∷ l) (take_front t x)

drop_front : (t x : List ℕ) → drop (length t) (t ++ x) ≡ x
drop_front [] x = refl
drop_front (b ∷ t) x = drop_front t x

long_enough : (t x : List ℕ) → nat_le (length t) (length (t ++ x)) ≡ true
long_enough t x = by (longer t x) where
  longer : (t x : List ℕ) → length (t ++ x) ≡ length t + length x
  longer [] x = omega arith
  longer (b ∷ t) x = let r = longer t x in omega (arith, r)

  by : length (t ++ x) ≡ length t + length x → nat_le (length t) (length (t ++ x)) ≡ true
  by e = grind (arith, tests)

before_text : (t x : List ℕ) → atom t ++ x ≡ numeral (length t) ++ 58 ∷ (t ++ x)
unfolding atom
before_text t x = append_assoc (numeral (length t) ++ 58 ∷ []) t x ∙ append_assoc (numeral (length t)) (58 ∷ []) (t ++ x)

pub atom_read : (t x : List ℕ) → atom_at (atom t ++ x) ≡ Some (t, x)
unfolding atom_at
atom_read t x =
    ap atom_at (before_text t x)
    ∙ ap (option_and_then split) (numeral_read (length t) (t ++ x))
    ∙ rw (long_enough t x, take_front t x, drop_front t x) refl

-- it begins with a digit
pub begins : (t x : List ℕ) → (b : ℕ) × (more : List ℕ) × (atom t ++ x ≡ b ∷ more) × (48 + 0 < suc b) × (b < 59)
unfolding numeral
begins t x = by (decimal_digits (length t)) (digits_below_ten (length t)) (before_text t x) where
  by : (ds : List ℕ) → AllBelowBase 10 ds → atom t ++ x ≡ map (λ digit. 48 + digit) ds ++ 58 ∷ (t ++ x) → (b : ℕ) × (more : List ℕ) × (atom t ++ x ≡ b ∷ more) × (48 + 0 < suc b) × (b < 59)
  by [] h e = (58, t ++ x, e, omega arith, omega arith)
  by (d ∷ ds) h e = (48 + d, map (λ digit. 48 + digit) ds ++ 58 ∷ (t ++ x), e, omega arith, let z = h.0 in omega (arith, z))
