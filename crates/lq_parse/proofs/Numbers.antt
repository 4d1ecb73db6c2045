-- A number is read from its text.
use Rattle.std.proofs.Common.{◌≡◌, ◌<◌, ◌≤◌, ℕ, suc, ◌-◌, ◌^◌, ◌==◌, ◌&&◌, nat_le, nat_lt, Bool, true, false, ℤ, pos, negsuc, unsigned_abs, List, [], ◌∷◌, ◌++◌, length, Some, ap, ◌∙◌, refl, arith, rules, tests}
use Rattle.std.specs.Char.{is_ascii_digit}
use Rattle.std.specs.Fmt.{decimal, sign_text}
use Rattle.std.specs.List.{list_all, list_any}
use Rattle.std.specs.Str.Parse.{digits_value, starts_with_minus}
use Rattle.std.proofs.lemmas.Bool.{and_from, and_parts, le-leb, leb-true, lt-ltb, ltb-true, or_right}
use Rattle.std.proofs.lemmas.Fmt.{decimal_is_IsNumeral_wide}
use Rattle.std.proofs.lemmas.Str.Parse.{IsDigitsTest, IsNumeralModel, numerals_by_value}
use Rattle.lq_base.specs.Laws.{FixedReadsBack, SpellsGivesNumberOf}
use Rattle.lq_base.specs.Number.{fixed_text, has_digits, is_digits, is_dot, signed, whole_text}
use Rattle.lq_base.specs.Spells.{IsPointed}
use Rattle.lq_base.specs.Sql.{is_number_byte}
use Rattle.lq_base.specs.declared.literal.Literal.TheVariants as constant
use Rattle.lq_model.specs.Comparison.{is_literal}
use Rattle.lq_model.specs.SqlPart.{number, whole_by}
use Rattle.lq_parse.proofs.Bytes.{all_append, all_in, digit_is}
use Rattle.lq_parse.proofs.Fronts.{IsNumberText, digit_is_number_byte}

-- some digits, the first of them apart
record Digits (w : List ℕ) : Type 0 where
  first : ℕ
  more : List ℕ
  is : w ≡ first ∷ more
  digit : is_ascii_digit first ≡ true
  others : list_all is_ascii_digit more ≡ true

digits_of : (w : List ℕ) → 0 < length w → list_all is_ascii_digit w ≡ true → Digits w
digits_of [] some all = absurd (omega arith)
digits_of (b ∷ w) some all =
    let both = and_parts (is_ascii_digit b) (list_all is_ascii_digit w) all in
    record { first = b; more = w; is = refl; digit = both.0; others = both.1 }

pub of_is_digits : (w : List ℕ) → is_digits w ≡ true → (0 < length w) × (list_all is_ascii_digit w ≡ true)
of_is_digits w is =
    let both = and_parts (nat_lt 0 (length w)) (list_all is_ascii_digit w) is in
    let some : 0 < length w = search (rules, tests) in
    (some, both.1)

number_bytes : (w : List ℕ) → list_all is_ascii_digit w ≡ true → list_all is_number_byte w ≡ true
number_bytes w all = all_in is_ascii_digit is_number_byte digit_is_number_byte w all

-- `-` or nothing, and digits
pub signed_digits : (text : List ℕ) (negative : Bool) (w : List ℕ) → text ≡ sign_text negative ++ w → is_digits w ≡ true → IsNumberText text
signed_digits text negative w is all =
    let facts = of_is_digits w all in
    let split = digits_of w facts.0 facts.1 in
    record { negative = negative; first = split.first; more = split.more; is = is ∙ ap (λ z. sign_text negative ++ z) split.is; digit = split.digit; others = number_bytes split.more split.others }

-- and a dot and digits after it
pointed_digits : (text : List ℕ) (units : ℤ) (scale : ℕ) → IsPointed text units scale → IsNumberText text
pointed_digits text units scale it =
    let whole = of_is_digits it.whole it.are_digits.0 in
    let fraction = of_is_digits it.fraction it.are_digits.1 in
    let split = digits_of it.whole whole.0 whole.1 in
    record {
      negative = it.negative;
      first = split.first;
      more = split.more ++ 46 ∷ it.fraction;
      is = it.is ∙ pointed it.negative it.whole it.fraction split.first split.more split.is;
      digit = split.digit;
      others = all_append is_number_byte split.more (46 ∷ it.fraction) (number_bytes split.more split.others) (and_from (is_number_byte 46) (list_all is_number_byte it.fraction) refl (number_bytes it.fraction fraction.1));
    }
  where
    pointed : (negative : Bool) (whole fraction : List ℕ) (first : ℕ) (more : List ℕ) → whole ≡ first ∷ more → sign_text negative ++ whole ++ 46 ∷ fraction ≡ sign_text negative ++ (first ∷ (more ++ 46 ∷ fraction))
    pointed true whole fraction first more is = ap (λ z. 45 ∷ (z ++ 46 ∷ fraction)) is
    pointed false whole fraction first more is = ap (λ z. z ++ 46 ∷ fraction) is

tells_list_all : IsDigitsTest (λ ds. list_all is_ascii_digit ds ≡ true)
tells_list_all = record {
  empty = refl;
  parts = λ c cs e. let k = and_parts (is_ascii_digit c) (list_all is_ascii_digit cs) e in let m = and_parts (nat_le 48 c) (nat_le c 57) k.0 in ((leb-true 48 c m.0, leb-true c 57 m.1), k.1);
  more = λ c cs k e. and_from (is_ascii_digit c) (list_all is_ascii_digit cs) (and_from (nat_le 48 c) (nat_le c 57) (le-leb 48 c k.0) (le-leb c 57 k.1)) e;
}

pub all_digits : IsNumeralModel (λ ds. list_all is_ascii_digit ds ≡ true) (digits_value 10)
all_digits = numerals_by_value (λ ds. list_all is_ascii_digit ds ≡ true) tells_list_all

pub decimal_digits : (n : ℕ) → n < 10 ^ 64 → is_digits (decimal n) ≡ true
decimal_digits n h =
    let is = decimal_is_IsNumeral_wide n h in
    and_from (nat_lt 0 (length (decimal n))) (list_all is_ascii_digit (decimal n)) (lt-ltb 0 _ is.0.0) (all_digits.from (decimal n) is.0.1)

-- digits have no dot and no minus

pub no_dot : (w : List ℕ) → list_all is_ascii_digit w ≡ true → list_any is_dot w ≡ false
no_dot [] all = refl
no_dot (b ∷ w) all =
    let both = and_parts (is_ascii_digit b) (list_all is_ascii_digit w) all in
    let here : is_dot b ≡ false = digit_is (λ c. is_dot c ≡ false) b both.0 (refl, (refl, (refl, (refl, (refl, (refl, (refl, (refl, (refl, (refl, tt)))))))))) in
    rw (here, no_dot w both.1) refl

no_minus : (w : List ℕ) → 0 < length w → list_all is_ascii_digit w ≡ true → starts_with_minus w ≡ false
no_minus [] some all = absurd (omega arith)
no_minus (b ∷ w) some all =
    let both = and_parts (is_ascii_digit b) (list_all is_ascii_digit w) all in
    digit_is (λ c. (c == 45) ≡ false) b both.0 (refl, (refl, (refl, (refl, (refl, (refl, (refl, (refl, (refl, (refl, tt))))))))))

small : (n : ℕ) → nat_le n (2 ^ 127) ≡ true → n < 10 ^ 64
small n is = let le : n ≤ 2 ^ 127 = leb-true n (2 ^ 127) is in omega arith

read_whole : (negative : Bool) (w : List ℕ) (n : ℕ) → is_digits w ≡ true → digits_value 10 w ≡ n → is_literal (constant.Int (signed negative n)) ≡ true
    → whole_by negative w ≡ Some (constant.Int (signed negative n))
read_whole negative w n all is fits = rw (all, is, fits) refl

plain_number : (w : List ℕ) (n : ℕ) → is_digits w ≡ true → digits_value 10 w ≡ n → is_literal (constant.Int (pos n)) ≡ true → number w ≡ Some (constant.Int (pos n))
unfolding number
plain_number w n all is fits =
    let facts = of_is_digits w all in
    rw (no_dot w facts.1, no_minus w facts.0 facts.1) (read_whole false w n all is fits)

minus_number : (w : List ℕ) (n : ℕ) → is_digits w ≡ true → digits_value 10 w ≡ suc n → is_literal (constant.Int (negsuc n)) ≡ true → number (45 ∷ w) ≡ Some (constant.Int (negsuc n))
unfolding number
minus_number w n all is fits =
    let facts = of_is_digits w all in
    rw (no_dot w facts.1) (read_whole true w (suc n) all is fits)

pub whole_number : (n : ℤ) → is_literal (constant.Int n) ≡ true → number (whole_text n) ≡ Some (constant.Int n)
whole_number (pos n) fits =
    let below = small n (below_plain n fits) in
    plain_number (decimal n) n (decimal_digits n below) (decimal_is_IsNumeral_wide n below).1 fits
  where
    below_plain : (n : ℕ) → is_literal (constant.Int (pos n)) ≡ true → nat_le n (2 ^ 127) ≡ true
    below_plain n fits = let le : n ≤ 2 ^ 127 - 1 = leb-true n (2 ^ 127 - 1) fits in le-leb n (2 ^ 127) (omega arith)
whole_number (negsuc n) fits =
    let below = small (suc n) (below_minus n fits) in
    minus_number (decimal (suc n)) n (decimal_digits (suc n) below) (decimal_is_IsNumeral_wide (suc n) below).1 fits
  where
    below_minus : (n : ℕ) → is_literal (constant.Int (negsuc n)) ≡ true → nat_le (suc n) (2 ^ 127) ≡ true
    below_minus n fits = let le : n ≤ 2 ^ 127 - 1 = leb-true n (2 ^ 127 - 1) (and_parts (nat_le n (2 ^ 127 - 1)) true fits).0 in le-leb (suc n) (2 ^ 127) (omega arith)

pub whole_number_text : (n : ℤ) → is_literal (constant.Int n) ≡ true → IsNumberText (whole_text n)
whole_number_text (pos n) fits = signed_digits (decimal n) false (decimal n) refl (decimal_digits n (below_plain n fits))
  where
    below_plain : (n : ℕ) → is_literal (constant.Int (pos n)) ≡ true → n < 10 ^ 64
    below_plain n fits = let le : n ≤ 2 ^ 127 - 1 = leb-true n (2 ^ 127 - 1) fits in omega arith
whole_number_text (negsuc n) fits = signed_digits (45 ∷ decimal (suc n)) true (decimal (suc n)) refl (decimal_digits (suc n) (below_minus n fits))
  where
    below_minus : (n : ℕ) → is_literal (constant.Int (negsuc n)) ≡ true → suc n < 10 ^ 64
    below_minus n fits = let le : n ≤ 2 ^ 127 - 1 = leb-true n (2 ^ 127 - 1) (and_parts (nat_le n (2 ^ 127 - 1)) true fits).0 in omega arith

-- decimal numbers

some_dot : (a b : List ℕ) → list_any is_dot (a ++ 46 ∷ b) ≡ true
some_dot [] b = refl
some_dot (c ∷ a) b = or_right (is_dot c) (list_any is_dot (a ++ 46 ∷ b)) (some_dot a b)

has_dot : (text : List ℕ) (units : ℤ) (scale : ℕ) → IsPointed text units scale → list_any is_dot text ≡ true
has_dot text units scale it = ap (list_any is_dot) it.is ∙ some_dot (sign_text it.negative ++ it.whole) it.fraction

fixed_facts : (units : ℤ) (scale : ℕ) → is_literal (constant.Fixed units scale) ≡ true → (unsigned_abs units < 10 ^ 38) × (0 < scale) × (scale < 38)
fixed_facts units scale fits =
    let a = and_parts (nat_le 1 scale) (nat_le scale 37 && has_digits 38 (unsigned_abs units)) fits in
    let b = and_parts (nat_le scale 37) (has_digits 38 (unsigned_abs units)) a.1 in
    let low : 1 ≤ scale = leb-true 1 scale a.0 in
    let high : scale ≤ 37 = leb-true scale 37 b.0 in
    let few : unsigned_abs units < 10 ^ 38 = ltb-true (unsigned_abs units) (10 ^ 38) b.1 in
    (few, omega arith, omega arith)

fixed_spelled : FixedReadsBack → (units : ℤ) (scale : ℕ) → is_literal (constant.Fixed units scale) ≡ true → IsPointed (fixed_text units scale) units scale
fixed_spelled again units scale fits =
    let facts = fixed_facts units scale fits in
    again units scale facts.0 facts.1 facts.2

pub fixed_number : FixedReadsBack → SpellsGivesNumberOf → (units : ℤ) (scale : ℕ) → is_literal (constant.Fixed units scale) ≡ true → number (fixed_text units scale) ≡ Some (constant.Fixed units scale)
unfolding number
fixed_number again spells units scale fits =
    let spelled = fixed_spelled again units scale fits in
    rw (has_dot (fixed_text units scale) units scale spelled) (spells (fixed_text units scale) (constant.Fixed units scale) spelled)

pub fixed_number_text : FixedReadsBack → (units : ℤ) (scale : ℕ) → is_literal (constant.Fixed units scale) ≡ true → IsNumberText (fixed_text units scale)
fixed_number_text again units scale fits = pointed_digits (fixed_text units scale) units scale (fixed_spelled again units scale fits)
