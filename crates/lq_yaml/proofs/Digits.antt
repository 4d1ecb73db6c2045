-- What `parse` says of a text that the pattern of whole numbers takes.
use Rattle.std.proofs.Common.{◌≡◌, ℕ, ℤ, ◌<◌, ◌≤◌, Bool, true, false, cond, ◌&&◌, ◌||◌, ◌==◌, nat_le, List, [], ◌∷◌, drop, Result, Ok, Err, ◌-◌, ◌^◌, FitsSigned, Option, Some, None, refl, ◌∙◌, arith, rules}
use Rattle.std.proofs.lemmas.Bool.Decides.{nat_tests}
use Rattle.std.proofs.lemmas.Bool.{leb-true, eqb-true, ne_eqb}
use Rattle.std.specs.List.{list_all}
use Rattle.std.specs.Int.{IsInRange, w128}
use Rattle.std.specs.Result.{result_ok}
use lib.IntN.{pos, negsuc}
use Rattle.std.specs.Str.Parse.{AllDigits, IsNumeral, ParsesSigned, without_leading_sign, signed_digits_value}
use Rattle.std.proofs.lemmas.Str.Parse.{tells_digits}
use Rattle.lq_yaml.specs.Tree.{is_nil}
use Rattle.lq_yaml.specs.Meaning.{is_digit, is_begun, is_positive, is_whole, fits_128}

and_true : (a b : Bool) → (a && b) ≡ true → (a ≡ true) × (b ≡ true)
and_true true b is = (refl, is)
and_true false b is = absurd cc

in_range : (b : ℕ) → is_digit b ≡ true → IsInRange 48 57 b
in_range b is = let k = and_true (nat_le 48 b) (nat_le b 57) is in search (rules, nat_tests)

digits : (bs : List ℕ) → list_all is_digit bs ≡ true → AllDigits 10 bs
digits [] is = tells_digits.empty
digits (b ∷ bs) is = let k = and_true (is_digit b) (list_all is_digit bs) is in tells_digits.more b bs (in_range b k.0) (digits bs k.1)

begun_range : (b : ℕ) (bs : List ℕ) → is_begun b bs ≡ true → IsInRange 48 57 b × AllDigits 10 bs
begun_range b bs is =
    let x = and_true (nat_le 49 b && nat_le b 57) (list_all is_digit bs) is in
    let y = and_true (nat_le 49 b) (nat_le b 57) x.0 in
    let low : 49 ≤ b = leb-true 49 b y.0 in
    let high : b ≤ 57 = leb-true b 57 y.1 in
    ((omega arith, high), digits bs x.1)

positive : (bs : List ℕ) → is_positive bs ≡ true → IsNumeral 10 bs
positive [] is = absurd cc
positive (b ∷ bs) is = let k = begun_range b bs is in (omega arith, tells_digits.more b bs k.0 k.1)

zero_range : (b : ℕ) (bs : List ℕ) → (b == 48) ≡ true → is_nil bs ≡ true → IsInRange 48 57 b × AllDigits 10 bs
zero_range b [] e n = let same : b ≡ 48 = eqb-true b 48 e in ((omega arith, omega arith), tells_digits.empty)
zero_range b (c ∷ bs) e n = absurd cc

either_range : (b : ℕ) (bs : List ℕ) (z : Bool) → (b == 48 && is_nil bs) ≡ z → (z || is_begun b bs) ≡ true → IsInRange 48 57 b × AllDigits 10 bs
either_range b bs true z is = let k = and_true (b == 48) (is_nil bs) z in zero_range b bs k.0 k.1
either_range b bs false z is = begun_range b bs is

whole_range : (b : ℕ) (bs : List ℕ) → ((b == 48 && is_nil bs) || is_begun b bs) ≡ true → IsInRange 48 57 b × AllDigits 10 bs
whole_range b bs is = either_range b bs (b == 48 && is_nil bs) refl is

numeral_by : (b : ℕ) (bs : List ℕ) (m : Bool) → (b == 45) ≡ m → cond m (is_positive bs) ((b == 48 && is_nil bs) || is_begun b bs) ≡ true
    → IsNumeral 10 (cond m bs (drop (cond (b == 43) 1 0) (b ∷ bs)))
numeral_by b bs true m is = positive bs is
numeral_by b bs false m is =
    let k = whole_range b bs is in
    let other : (b == 43) ≡ false = ne_eqb b 43 (λ e. absurd (omega (arith, e, k.0.0))) in
    rw other (omega arith, tells_digits.more b bs k.0 k.1)

numeral : (bs : List ℕ) → is_whole bs ≡ true → IsNumeral 10 (without_leading_sign bs)
numeral [] is = absurd cc
numeral (b ∷ bs) is = numeral_by b bs (b == 45) refl is

below_is : (n : ℕ) → nat_le n (2 ^ 127 - 1) ≡ true → n < 2 ^ 127
below_is n is = let le : n ≤ 2 ^ 127 - 1 = leb-true n (2 ^ 127 - 1) is in omega arith

below_from : (n : ℕ) → n < 2 ^ 127 → nat_le n (2 ^ 127 - 1) ≡ true
below_from n lt = let le : n ≤ 2 ^ 127 - 1 = omega arith in grind (arith, nat_tests)

fits : (z : ℤ) → fits_128 z ≡ true → FitsSigned w128 z
fits (pos n) is = record { sfits = below_is n is }
fits (negsuc n) is = record { sfits = below_is n (and_true (nat_le n (2 ^ 127 - 1)) true is).0 }

fits_from : (z : ℤ) → FitsSigned w128 z → fits_128 z ≡ true
fits_from (pos n) f = below_from n f.sfits
fits_from (negsuc n) f = rw (below_from n f.sfits) refl

abbrev read_as : List ℕ → Bool → Option ℤ
read_as bs b = cond b (Some (signed_digits_value 10 bs)) None

refused : (bs : List ℕ) (b : Bool) → fits_128 (signed_digits_value 10 bs) ≡ b → (FitsSigned w128 (signed_digits_value 10 bs) → ⊥) → None ≡ read_as bs b
refused bs true is h = absurd (h (fits _ is))
refused bs false is h = refl

pub parsed : {E : Type 0} (bs : List ℕ) (r : Result ℤ E) (o : Option ℤ) → ParsesSigned w128 10 bs r → is_whole bs ≡ true
    → o ≡ result_ok r → o ≡ cond (is_whole bs && fits_128 (signed_digits_value 10 bs)) (Some (signed_digits_value 10 bs)) None
parsed bs (Ok x) o h w is = is ∙ rw (w, fits_from _ h.0.1, h.1) refl
parsed bs (Err e) o h w is = is ∙ refused bs _ refl (λ f. h (numeral bs w, f)) ∙ rw w refl
