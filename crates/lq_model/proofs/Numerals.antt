-- Numbers in decimal: what the formatter writes, and how they are read.
use Rattle.std.proofs.Common.{◌≡◌, ℕ, zero, suc, ◌+◌, ◌/◌, ◌%◌, ◌^◌, ◌<◌, ◌≤◌, List, [], ◌∷◌, ◌++◌, refl, ap, ℤ, pos, negsuc, arith}
use Rattle.std.specs.Fmt.{decimal, signed_decimal}
use Rattle.std.specs.Int.Digits.{digits_of, number_from_digits, AllBelowBase}
use Rattle.std.proofs.lemmas.Fmt.{decimal_by_steps_wide}
use Rattle.std.proofs.lemmas.Int.Digits.{digits_of_step, number_digits_of, all_below_base_digits_of}
use Rattle.std.proofs.lemmas.List.{map-append}
use Rattle.std.proofs.Common.{FitsSigned, to_z, of_z, length}
use Rattle.std.proofs.lemmas.Int.{to_z-of_z}
use Rattle.std.proofs.lemmas.List.{append_assoc}
use lib.Signed.{mag}
use Rattle.std.specs.Int.{w128}
use Rattle.lq_model.specs.Changes.{atom, decimal_digits, numeral, signed_numeral}

above_zero : (n : ℕ) → 0 < n → decimal_digits n ≡ digits_of 10 n
unfolding decimal_digits
above_zero zero h = grind arith
above_zero (suc n) h = refl

one_digit : (n : ℕ) → n < 10 → ◌≡◌ {A = List ℕ} ((48 + n) ∷ []) (numeral n)
unfolding numeral decimal_digits
one_digit zero h = refl
one_digit (suc n) h =
    let front : suc n / 10 ≡ 0 = omega arith in
    let last : suc n % 10 ≡ suc n = omega arith in
    rw (digits_of_step 10 (suc n) (omega arith) (omega arith), front, last) refl

more_digits : (n : ℕ) (front : List ℕ) → 10 ≤ n → front ≡ numeral (n / 10) → front ++ ((48 + n % 10) ∷ []) ≡ numeral n
unfolding numeral
more_digits n front h e =
    rw (above_zero n (omega arith), digits_of_step 10 n (omega arith) (omega arith), map-append (λ digit. 48 + digit) (digits_of 10 (n / 10)) (n % 10 ∷ []), e, above_zero (n / 10) (omega arith)) refl

pub decimal_is_numeral : (n : ℕ) → n < 10 ^ 64 → decimal n ≡ numeral n
decimal_is_numeral = decimal_by_steps_wide (λ n written. written ≡ numeral n) one_digit more_digits

pub number_of_digits : (n : ℕ) → number_from_digits 10 (decimal_digits n) ≡ n
unfolding decimal_digits
number_of_digits zero = refl
number_of_digits (suc n) = number_digits_of 10 (suc n) (omega arith)

pub digits_below_ten : (n : ℕ) → AllBelowBase 10 (decimal_digits n)
unfolding decimal_digits
digits_below_ten zero = (omega arith, tt)
digits_below_ten (suc n) = all_below_base_digits_of 10 (suc n) (omega arith)

-- what the formatter writes of a number that fits its type
pub decimal_of_word : (n : ℕ) → n < 2 ^ 64 → decimal n ≡ numeral n
decimal_of_word n fits = decimal_is_numeral n (omega (arith, fits))

signed_decimal_is_numeral : (z : ℤ) → mag z < 2 ^ 127 → signed_decimal z ≡ signed_numeral z
signed_decimal_is_numeral (pos n) fits = decimal_is_numeral n (omega (arith, fits))
signed_decimal_is_numeral (negsuc n) fits = ap (λ digits. 45 ∷ digits) (decimal_is_numeral (suc n) (omega (arith, fits)))

pub decimal_of_signed : (z : ℤ) → FitsSigned w128 z → signed_decimal (to_z w128 (of_z w128 z)) ≡ signed_numeral z
decimal_of_signed z fits = rw (to_z-of_z w128 z fits) (signed_decimal_is_numeral z fits.sfits)

-- what stands before a text, and the text, are the mark and the atom
pub atom_from_parts : (mark t head tail : List ℕ) → head ≡ mark ++ (numeral (length t) ++ 58 ∷ []) → tail ≡ t → head ++ tail ≡ mark ++ atom t
unfolding atom
atom_from_parts mark t head tail heads tails = rw (heads, tails) (append_assoc mark (numeral (length t) ++ 58 ∷ []) t)
