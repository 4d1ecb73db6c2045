-- Digits that were written are read back.
use Rattle.std.proofs.Common.{◌≡◌, ℕ, zero, suc, ◌+◌, ◌*◌, ◌/◌, ◌%◌, ◌^◌, ◌<◌, true, cond, nat_le, List, [], ◌∷◌, ◌++◌, length, take, get_or, Option, Some, None, refl, ap, sym, ◌∙◌, arith, rules, tests}
use Rattle.std.proofs.lemmas.Bool.{and_parts, leb-true}
use Rattle.std.proofs.lemmas.Grind.{take_at_read}
use Rattle.std.proofs.lemmas.Int.Digits.{digits_value-lt}
use Rattle.std.proofs.lemmas.List.{take_all, length-take-le}
use Rattle.lq_base.proofs.SpacedLemmas.{all_digits}
use Rattle.std.specs.Char.{is_ascii_digit, digit_value}
use Rattle.std.specs.List.{list_all}
use Rattle.std.specs.Str.Parse.{digits_value}
use Rattle.std.proofs.Math.Nat.{pow-succ'}
use Rattle.std.proofs.lemmas.List.Folds.{list_all-append}
use Rattle.std.proofs.lemmas.Str.{digit_value_digit}
use Rattle.lq_base.specs.Number.{last_digits}
use Rattle.lq_base.proofs.NumberLemmas.{digits_value_after-append}

-- what a text of digits writes, and nothing where it is none
abbrev pub read_digits : List ℕ → Option ℕ
read_digits digits = cond (list_all is_ascii_digit digits) (Some (digits_value 10 digits)) None

is_digit-below_ten : (d : ℕ) → d < 10 → is_ascii_digit (48 + d) ≡ true
is_digit-below_ten d h =
    let low : nat_le 48 (48 + d) ≡ true = search (rules, tests) in
    let high : nat_le (48 + d) 57 ≡ true = search (rules, tests) in
    rw (low, high) refl

list_all-last : (xs : List ℕ) (x : ℕ) → list_all is_ascii_digit xs ≡ true → is_ascii_digit x ≡ true → list_all is_ascii_digit (xs ++ x ∷ []) ≡ true
list_all-last xs x h e = list_all-append is_ascii_digit xs (x ∷ []) ∙ rw (h, e) refl

pub last_digits-digits : (count n : ℕ) → list_all is_ascii_digit (last_digits count n) ≡ true
last_digits-digits zero n = refl
last_digits-digits (suc count) n = list_all-last (last_digits count (n / 10)) (48 + n % 10) (last_digits-digits count (n / 10)) (is_digit-below_ten (n % 10) (omega arith))

last_digits-value : (count n : ℕ) → n < 10 ^ count → digits_value 10 (last_digits count n) ≡ n
last_digits-value zero n h = omega arith
last_digits-value (suc count) n h =
    let front : n / 10 < 10 ^ count = omega (arith, pow-succ' 10 count) in
    let before = last_digits-value count (n / 10) front in
    let digit : digit_value (48 + n % 10) ≡ n % 10 = omega (arith, digit_value_digit (48 + n % 10) (omega arith, omega arith)) in
    let joined = digits_value_after-append 10 0 (last_digits count (n / 10)) ((48 + n % 10) ∷ []) in
    joined ∙ rw (before, digit) (omega arith)

pub read_digits-last_digits : (count n : ℕ) → n < 10 ^ count → read_digits (last_digits count n) ≡ Some n
read_digits-last_digits count n h = rw (last_digits-digits count n, last_digits-value count n h) refl

-- digits that were read are written back
pub last_digits-written : (count : ℕ) (digits : List ℕ) → length digits ≡ count → list_all is_ascii_digit digits ≡ true → last_digits count (digits_value 10 digits) ≡ digits
last_digits-written zero [] e h = refl
last_digits-written zero (d ∷ digits) e h = absurd (omega arith)
last_digits-written (suc count) digits e h =
    let front = take count digits in
    let last = get_or digits count 0 in
    let whole : front ++ last ∷ [] ≡ digits = sym (take_at_read digits count 0 (omega arith)).1 ∙ take_all _ digits (omega arith) in
    let both = and_parts (list_all is_ascii_digit front) (list_all is_ascii_digit (last ∷ [])) (sym (list_all-append is_ascii_digit front (last ∷ [])) ∙ ap (list_all is_ascii_digit) whole ∙ h) in
    let digit = and_parts (is_ascii_digit last) true both.1 in
    let range = and_parts (nat_le 48 last) (nat_le last 57) digit.0 in
    let low = leb-true 48 last range.0 in
    let high = leb-true last 57 range.1 in
    let number : digits_value 10 digits ≡ digits_value 10 front * 10 + digit_value last = ap (digits_value 10) (sym whole) ∙ digits_value_after-append 10 0 front (last ∷ []) in
    let tells = digit_value_digit last (low, high) in
    let before = last_digits-written count front (length-take-le count digits (omega arith)) both.0 in
    rw number (rest_is (digits_value 10 front) (digit_value last) last count (omega (arith, tells)) (omega (arith, tells)) ∙ ap (λ f. f ++ last ∷ []) before ∙ whole)
  where
    rest_is : (v d b count : ℕ) → d < 10 → 48 + d ≡ b → last_digits (suc count) (v * 10 + d) ≡ last_digits count v ++ b ∷ []
    rest_is v d b count small is =
        let high : (v * 10 + d) / 10 ≡ v = omega arith in
        let low : 48 + (v * 10 + d) % 10 ≡ b = omega arith in
        rw (high, low) refl

pub digits-bound : (digits : List ℕ) → list_all is_ascii_digit digits ≡ true → digits_value 10 digits < 10 ^ length digits
digits-bound digits h = digits_value-lt 10 digits (all_digits.to digits h)
