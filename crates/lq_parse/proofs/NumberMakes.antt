-- A number that is read can be written.
use Rattle.std.proofs.Common.{◌≡◌, ◌<◌, ◌≤◌, ℕ, zero, suc, ◌^◌, Bool, true, false, ◌&&◌, nat_le, ℤ, unsigned_abs, if◌then◌else◌, List, ◌++◌, length, Some, None, IfSome, ap, ◌∙◌, sym, refl, arith}
use Rattle.std.specs.Char.{is_ascii_digit}
use Rattle.std.specs.Fmt.{sign_text}
use Rattle.std.specs.List.{list_all, list_any}
use Rattle.std.specs.Str.Parse.{digits_value, starts_with_minus}
use Rattle.std.proofs.Math.Nat.{pow-le-pow_right}
use Rattle.std.proofs.lemmas.Bool.{and_from, and_parts, le-leb, lt-ltb}
use Rattle.std.proofs.lemmas.Int.Digits.{digits_value-lt}
use Rattle.std.proofs.lemmas.List.{length-append}
use Rattle.lq_base.specs.Laws.{NumberOfSpells}
use Rattle.lq_base.specs.Number.{has_digits, is_digits, is_dot, number_of, signed, without_minus}
use Rattle.lq_base.specs.Spells.{IsPointed, SpellsNumber}
use Rattle.lq_base.specs.declared.literal.Literal.{Literal}
use Rattle.lq_base.specs.declared.literal.Literal.TheVariants as constant
use Rattle.lq_model.specs.Comparison.{is_literal}
use Rattle.lq_model.specs.SqlPart.{number, whole_by}
use Rattle.lq_parse.proofs.Bytes.{all_append}
use Rattle.lq_parse.proofs.Makes.{IsLiteralText}
use Rattle.lq_parse.proofs.Numbers.{all_digits, no_dot, of_is_digits}

whole_makes : (negative : Bool) (digits : List ℕ) → IfSome (whole_by negative digits) IsLiteralText
whole_makes negative digits =
    elim (is_digits digits && is_literal (constant.Int (signed negative (digits_value 10 digits)))) as (λ b. (is_digits digits && is_literal (constant.Int (signed negative (digits_value 10 digits)))) ≡ b
    → IfSome (if b then Some (constant.Int (signed negative (digits_value 10 digits))) else None) IsLiteralText) [
      | true ↦ λ e. (and_parts (is_digits digits) (is_literal (constant.Int (signed negative (digits_value 10 digits)))) e).1
      | false ↦ λ e. tt
    ] refl

-- the text of a whole number has no dot
signed_no_dot : (negative : Bool) (digits : List ℕ) → list_all is_ascii_digit digits ≡ true → list_any is_dot (sign_text negative ++ digits) ≡ false
signed_no_dot true digits all = no_dot digits all
signed_no_dot false digits all = no_dot digits all

magnitude : (negative : Bool) (n : ℕ) → unsigned_abs (signed negative n) ≡ n
magnitude false n = refl
magnitude true zero = refl
magnitude true (suc n) = refl

pointed_fits : (bytes : List ℕ) (units : ℤ) (scale : ℕ) → IsPointed bytes units scale → is_literal (constant.Fixed units scale) ≡ true
pointed_fits bytes units scale it =
    let whole = of_is_digits it.whole it.are_digits.0 in
    let fraction = of_is_digits it.fraction it.are_digits.1 in
    let all = all_digits.to (it.whole ++ it.fraction) (all_append is_ascii_digit it.whole it.fraction whole.1 fraction.1) in
    let long : length (it.whole ++ it.fraction) ≤ 38 = omega (arith, length-append it.whole it.fraction, it.few) in
    let below : digits_value 10 (it.whole ++ it.fraction) < 10 ^ length (it.whole ++ it.fraction) = digits_value-lt 10 (it.whole ++ it.fraction) all in
    let most : 10 ^ length (it.whole ++ it.fraction) ≤ 10 ^ 38 = pow-le-pow_right (omega arith) long in
    let same : unsigned_abs units ≡ digits_value 10 (it.whole ++ it.fraction) = ap unsigned_abs it.value ∙ magnitude it.negative (digits_value 10 (it.whole ++ it.fraction)) in
    let few : unsigned_abs units < 10 ^ 38 = omega (arith, below, most, same) in
    let low : 1 ≤ scale = omega (arith, it.scale_is, fraction.0) in
    let high : scale ≤ 37 = omega (arith, it.scale_is, whole.0, it.few) in
    and_from (nat_le 1 scale) (nat_le scale 37 && has_digits 38 (unsigned_abs units)) (le-leb 1 scale low)
    (and_from (nat_le scale 37) (has_digits 38 (unsigned_abs units)) (le-leb scale 37 high) (lt-ltb (unsigned_abs units) (10 ^ 38) few))

spelled_makes : (bytes : List ℕ) (l : Literal) → list_any is_dot bytes ≡ true → SpellsNumber bytes l → IsLiteralText l
spelled_makes bytes (constant.Int n) dot it =
    let digits = of_is_digits it.digits it.are_digits in
    absurd (true_false (sym dot ∙ ap (list_any is_dot) it.is ∙ signed_no_dot it.negative it.digits digits.1))
  where
    true_false : true ≡ false → ⊥
    true_false e = absurd cc
spelled_makes bytes (constant.Fixed units scale) dot it = pointed_fits bytes units scale it
spelled_makes bytes constant.Null dot it = absurd it
spelled_makes bytes (constant.Bool b) dot it = absurd it
spelled_makes bytes (constant.Text t) dot it = absurd it

decimal_makes : NumberOfSpells → (bytes : List ℕ) → list_any is_dot bytes ≡ true → IfSome (number_of bytes) IsLiteralText
decimal_makes spells bytes dot =
    elim (number_of bytes) as (λ o. number_of bytes ≡ o → IfSome o IsLiteralText) [
      | None ↦ λ e. tt
      | Some l ↦ λ e. spelled_makes bytes l dot (spells bytes l e)
    ] refl

pub number_makes : NumberOfSpells → (bytes : List ℕ) → IfSome (number bytes) IsLiteralText
unfolding number
number_makes spells bytes =
    elim (list_any is_dot bytes) as (λ b. list_any is_dot bytes ≡ b → IfSome (if b then number_of bytes else whole_by (starts_with_minus bytes) (without_minus bytes)) IsLiteralText) [
      | true ↦ λ e. decimal_makes spells bytes e
      | false ↦ λ e. whole_makes (starts_with_minus bytes) (without_minus bytes)
    ] refl
