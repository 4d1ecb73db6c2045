-- A decimal number that a text spells has a digit on both sides of the point, and at most 38 digits.
use Rattle.std.proofs.Common.{◌≡◌, ◌<◌, ◌≤◌, ◌^◌, ◌-◌, ℕ, ℤ, List, Bool, Option, Some, true, false, ap, arith, length, ltb, refl, sym, zero, suc, ◌++◌, ◌∙◌, subst, length-append}
use Rattle.std.specs.Prelude.{unsigned_abs}
use Rattle.std.specs.Char.{is_ascii_digit}
use Rattle.std.specs.List.{list_all}
use Rattle.std.specs.Str.Parse.{digits_value}
use Rattle.std.proofs.Math.Nat.{pow-le-pow_right}
use Rattle.std.proofs.lemmas.Bool.{and_from, and_parts, le-leb, lt-ltb, ltb-true}
use Rattle.std.proofs.lemmas.Int.Digits.{digits_value-lt}
use Rattle.std.proofs.lemmas.List.Folds.{list_all-append}
use Rattle.lq_base.specs.Number.{number_of, signed}
use Rattle.lq_base.specs.Spells.{IsPointed, IsWhole, SpellsNumber}
use Rattle.lq_base.specs.declared.literal.Literal.{Literal}
use Rattle.lq_base.specs.declared.literal.Literal.TheVariants as literal
use Rattle.lq_base.proofs.NumberSpelled.{number_of-spells}
use Rattle.lq_base.proofs.SpacedLemmas.{all_digits}
use Rattle.lq_tree.specs.Given.{is_whole}
use Rattle.lq_tree.specs.Values.{is_decimal, is_given, number_given}
use Rattle.lq_tree.specs.declared.values.GivenValue.{GivenValue}

same_some : {A : Type 0} {x y : A} → (let o : Option A = Some x in o) ≡ Some y → x ≡ y
same_some e = Prim.cc

magnitude : (negative : Bool) (m : ℕ) → unsigned_abs (signed negative m) ≡ m
magnitude false m = refl
magnitude true zero = refl
magnitude true (suc m) = refl

few_digits : (digits : List ℕ) → list_all is_ascii_digit digits ≡ true → length digits ≤ 38 → digits_value 10 digits < 10 ^ 38
few_digits digits are few =
    let bound = digits_value-lt 10 digits (all_digits.to digits are) in
    let most : 10 ^ length digits ≤ 10 ^ 38 = pow-le-pow_right (omega arith) few in
    omega (arith, bound, most)

pointed_fits : (text : List ℕ) (units : ℤ) (scale : ℕ) → IsPointed text units scale → is_decimal units scale ≡ true
pointed_fits text units scale is =
    let whole = and_parts (ltb 0 (length is.whole)) (list_all is_ascii_digit is.whole) is.are_digits.0 in
    let fraction = and_parts (ltb 0 (length is.fraction)) (list_all is_ascii_digit is.fraction) is.are_digits.1 in
    let some_whole : 0 < length is.whole = ltb-true _ _ whole.0 in
    let some_fraction : 0 < length is.fraction = ltb-true _ _ fraction.0 in
    let digits : list_all is_ascii_digit (is.whole ++ is.fraction) ≡ true = list_all-append is_ascii_digit is.whole is.fraction ∙ and_from _ _ whole.1 fraction.1 in
    let count : length (is.whole ++ is.fraction) ≤ 38 = omega (arith, length-append is.whole is.fraction, is.few) in
    let small : unsigned_abs units < 10 ^ 38 = subst (λ m. m < 10 ^ 38) (sym (ap unsigned_abs is.value ∙ magnitude is.negative (digits_value 10 (is.whole ++ is.fraction)))) (few_digits (is.whole ++ is.fraction) digits count) in
    let low : 1 ≤ scale = omega (arith, is.scale_is, some_fraction) in
    let high : scale ≤ 37 = omega (arith, is.scale_is, some_whole, is.few) in
    and_from _ _ (le-leb 1 scale low) (and_from _ _ (le-leb scale 37 high) (lt-ltb _ _ small))

whole_fits : (negative : Bool) (m : ℕ) → m < 10 ^ 38 → is_whole (signed negative m) ≡ true
whole_fits false m small = and_from _ _ refl (le-leb m (2 ^ 127 - 1) (omega arith))
whole_fits true zero small = refl
whole_fits true (suc m) small = and_from _ _ (le-leb m (2 ^ 127 - 1) (omega arith)) refl

spelled_fits : (text : List ℕ) (n : ℤ) → IsWhole text n → is_whole n ≡ true
spelled_fits text n is =
    let digits = and_parts (ltb 0 (length is.digits)) (list_all is_ascii_digit is.digits) is.are_digits in
    subst (λ z. is_whole z ≡ true) (sym is.value) (whole_fits is.negative (digits_value 10 is.digits) (few_digits is.digits digits.1 is.few))

given_from : (text : List ℕ) (number : Literal) (given : GivenValue) → SpellsNumber text number → number_given number ≡ Some given → is_given given ≡ true
given_from text (literal.Int n) given is e = subst (λ v. is_given v ≡ true) (same_some e) (spelled_fits text n is)
given_from text (literal.Fixed units scale) given is e = subst (λ v. is_given v ≡ true) (same_some e) (pointed_fits text units scale is)
given_from text _ given is e = absurd is

-- what a number key states can be written
pub given_fits : (text : List ℕ) (number : Literal) (given : GivenValue) → number_of text ≡ Some number → number_given number ≡ Some given → is_given given ≡ true
given_fits text number given read e = given_from text number given (number_of-spells text number read) e
