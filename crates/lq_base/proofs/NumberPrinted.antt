-- A number is read from its printed text.
use Rattle.std.proofs.Common.{◌≡◌, ℕ, zero, suc, ◌+◌, ◌-◌, ◌*◌, ◌/◌, ◌%◌, ◌^◌, ◌<◌, true, false, ltb, ℤ, pos, negsuc, neg_ℤ, unsigned_abs, [], ◌∷◌, length, Some, refl, ap, ap₂, ◌∙◌, sym, arith, rules, tests}
use Rattle.std.specs.Char.{is_ascii_digit, digit_value}
use Rattle.std.specs.Fmt.{decimal}
use Rattle.std.specs.Int.{is_negative}
use Rattle.std.specs.List.{list_all}
use Rattle.std.specs.Str.Parse.{digits_value, digits_value_after}
use Rattle.std.proofs.Math.Nat.{div-div-eq-div-mul, pow-succ', div-lt_iff_lt-mul}
use Rattle.std.proofs.lemmas.Bool.{and_from, lt-ltb}
use Rattle.std.proofs.lemmas.Fmt.{decimal_is_IsNumeral_wide, length-decimal-le_wide}
use Rattle.std.proofs.lemmas.List.{length-append}
use Rattle.std.proofs.lemmas.Nat.{pow-add}
use Rattle.std.proofs.lemmas.Str.{digit_value_digit}
use Rattle.lq_base.specs.declared.literal.Literal.TheVariants.{Int, Fixed}
use Rattle.lq_base.specs.Number.{is_digits, last_digits, number_of, signed, whole_text, fixed_text}
use Rattle.lq_base.specs.Spells.{IsWhole, IsPointed}
use Rattle.lq_base.proofs.DigitLemmas.{last_digits-digits}
use Rattle.lq_base.proofs.NumberLemmas.{digits_value_after-append, ten_pow_le, ten_pow_pos}
use Rattle.lq_base.proofs.NumberSpelled.{spells-number_of}
use Rattle.lq_base.proofs.SpacedLemmas.{all_digits}

decimal-is_digits : (n : ℕ) → n < 10 ^ 38 → is_digits (decimal n) ≡ true
decimal-is_digits n h =
    let is = decimal_is_IsNumeral_wide n (omega arith) in
    and_from (ltb 0 (length (decimal n))) (list_all is_ascii_digit (decimal n)) (lt-ltb 0 _ is.0.0) (all_digits.from (decimal n) is.0.1)

decimal-value : (n : ℕ) → n < 10 ^ 38 → digits_value 10 (decimal n) ≡ n
decimal-value n h = (decimal_is_IsNumeral_wide n (omega arith)).1

whole_text-is : (n : ℤ) → unsigned_abs n < 10 ^ 38 → IsWhole (whole_text n) n
whole_text-is (pos n) h = record { negative = false; digits = decimal n; is = refl; are_digits = decimal-is_digits n h; few = length-decimal-le_wide 38 n (omega arith) h (omega arith); value = ap pos (sym (decimal-value n h)) }
whole_text-is (negsuc n) h = record { negative = true; digits = decimal (suc n); is = refl; are_digits = decimal-is_digits (suc n) h; few = length-decimal-le_wide 38 (suc n) (omega arith) h (omega arith); value = ap (λ m. neg_ℤ (pos m)) (sym (decimal-value (suc n) h)) }

pub number_of-whole_text : (n : ℤ) → unsigned_abs n < 10 ^ 38 → number_of (whole_text n) ≡ Some (Int n)
number_of-whole_text n h = spells-number_of (whole_text n) (Int n) (whole_text-is n h)

length-last_digits : (count n : ℕ) → length (last_digits count n) ≡ count
length-last_digits zero n = refl
length-last_digits (suc count) n = omega (arith, length-append (last_digits count (n / 10)) ((48 + n % 10) ∷ []), length-last_digits count (n / 10))

-- the last digits after those of what stands before them
last_digits-rest : (count n : ℕ) → digits_value_after 10 (n / 10 ^ count) (last_digits count n) ≡ n
last_digits-rest zero n = omega arith
last_digits-rest (suc count) n =
    let front : n / 10 ^ suc count ≡ n / 10 / 10 ^ count = ap (λ p. n / p) (pow-succ' 10 count) ∙ sym (div-div-eq-div-mul n 10 (10 ^ count)) in
    let before = last_digits-rest count (n / 10) in
    let digit : digit_value (48 + n % 10) ≡ n % 10 = omega (arith, digit_value_digit (48 + n % 10) (omega arith, omega arith)) in
    ap (λ v. digits_value_after 10 v (last_digits (suc count) n)) front
    ∙ digits_value_after-append 10 (n / 10 / 10 ^ count) (last_digits count (n / 10)) ((48 + n % 10) ∷ [])
    ∙ ap₂ (λ v d. v * 10 + d) before digit ∙ omega arith

signed-is : (units : ℤ) → units ≡ signed (is_negative units) (unsigned_abs units)
signed-is (pos n) =
    let test : is_negative (pos n) ≡ false = search (rules, tests) in
    ap (λ negative. signed negative n) (sym test)
signed-is (negsuc n) = refl

fixed_text-is : (units : ℤ) (more : ℕ) → unsigned_abs units < 10 ^ 38 → suc more < 38 → IsPointed (fixed_text units (suc more)) units (suc more)
fixed_text-is units more small few =
    let magnitude = unsigned_abs units in
    let whole = magnitude / 10 ^ suc more in
    let front : whole < 10 ^ (38 - suc more) = front_small magnitude (suc more) small few in
    let fits : whole < 10 ^ 38 = omega (arith, front, ten_pow_le (38 - suc more) 38 (omega arith)) in
    let long = length-last_digits (suc more) magnitude in
    let short = length-decimal-le_wide (38 - suc more) whole (omega arith) front (omega (arith, fits)) in
    record {
      negative = is_negative units;
      whole = decimal whole;
      fraction = last_digits (suc more) magnitude;
      is = refl;
      are_digits = (decimal-is_digits whole fits, and_from (ltb 0 (length (last_digits (suc more) magnitude))) (list_all is_ascii_digit (last_digits (suc more) magnitude)) (lt-ltb 0 _ (omega (arith, long))) (last_digits-digits (suc more) magnitude));
      few = omega (arith, short, long);
      value = signed-is units ∙ ap (signed (is_negative units)) (sym (digits_value_after-append 10 0 (decimal whole) (last_digits (suc more) magnitude) ∙ ap (λ v. digits_value_after 10 v (last_digits (suc more) magnitude)) (decimal-value whole fits) ∙ last_digits-rest (suc more) magnitude));
      scale_is = sym long;
    }
  where
    front_small : (m k : ℕ) → m < 10 ^ 38 → k < 38 → m / 10 ^ k < 10 ^ (38 - k)
    front_small m k h few =
        let whole : 38 - k + k ≡ 38 = omega arith in
        let joined : 10 ^ (38 - k) * 10 ^ k ≡ 10 ^ 38 = sym (pow-add 10 (38 - k) k) ∙ ap (λ n. 10 ^ n) whole in
        (div-lt_iff_lt-mul (ten_pow_pos k)).1 (rw joined h)

pub number_of-fixed_text : (units : ℤ) (scale : ℕ) → unsigned_abs units < 10 ^ 38 → 0 < scale → scale < 38 → number_of (fixed_text units scale) ≡ Some (Fixed units scale)
number_of-fixed_text units zero small some few = absurd (omega arith)
number_of-fixed_text units (suc more) small some few = spells-number_of (fixed_text units (suc more)) (Fixed units (suc more)) (fixed_text-is units more small few)
