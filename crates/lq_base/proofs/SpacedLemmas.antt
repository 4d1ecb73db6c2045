-- A number with blanks around it.
use Rattle.std.proofs.Common.{◌≡◌, ℕ, ◌^◌, ◌<◌, Bool, true, false, not, ◌&&◌, ◌||◌, ltb, leb, eqb, List, [], ◌∷◌, ◌++◌, length, take, drop, get_or, Some, refl, ap, ◌∙◌, sym, append_assoc, append-nil, take-append-drop, arith, rules, tests}
use Rattle.std.specs.Char.{is_ascii_digit}
use Rattle.std.specs.Fmt.{decimal}
use Rattle.std.specs.List.{list_all, position_or_len}
use Rattle.std.specs.Str.Parse.{digits_value}
use Rattle.std.proofs.Math.Seq.{take-append_seam, drop-append_seam}
use Rattle.std.proofs.lemmas.Bool.{and_parts, and_from, or_left, or_right, eqb-true, eq-eqb, ne_eqb, leb-true, le-leb, lt-ltb, ltb-true, cond-true, not_from_false}
use Rattle.std.proofs.lemmas.Fmt.{decimal_is_IsNumeral, decimal_nonempty, length-decimal-le, first_decimal, decimal-digits_value}
use Rattle.std.proofs.lemmas.Option.{cond_some}
use Rattle.std.proofs.lemmas.Str.Parse.{IsDigitsTest, IsNumeralModel, numerals_by_value}
use Rattle.lq_base.specs.Kind.{plain_number, is_blank, is_no_blank, is_no_digit, number_before_blanks, spaced_number}
use Rattle.lq_base.specs.Number.{is_digits}
use Rattle.lq_base.specs.Spells.{IsSpaced}
use Rattle.lq_base.proofs.NumberLemmas.{both_some}
use Rattle.lq_base.proofs.SplitLemmas.{place-append, place-none, none_from_all, all_before}

tells_list_all : IsDigitsTest (λ ds. list_all is_ascii_digit ds ≡ true)
tells_list_all = record {
  empty = refl;
  parts = λ c cs e. let k = and_parts (is_ascii_digit c) (list_all is_ascii_digit cs) e in let m = and_parts (leb 48 c) (leb c 57) k.0 in ((leb-true 48 c m.0, leb-true c 57 m.1), k.1);
  more = λ c cs k e. and_from (is_ascii_digit c) (list_all is_ascii_digit cs) (and_from (leb 48 c) (leb c 57) (le-leb 48 c k.0) (le-leb c 57 k.1)) e;
}

pub all_digits : IsNumeralModel (λ ds. list_all is_ascii_digit ds ≡ true) (digits_value 10)
all_digits = numerals_by_value (λ ds. list_all is_ascii_digit ds ≡ true) tells_list_all

pub decimal_digits : (n : ℕ) → n < 2 ^ 64 → is_digits (decimal n) ≡ true
decimal_digits n h =
    let is = decimal_is_IsNumeral n h in
    and_from (ltb 0 (length (decimal n))) (list_all is_ascii_digit (decimal n)) (lt-ltb 0 _ is.0.0) (all_digits.from (decimal n) is.0.1)

-- a number's digits have no leading zero
decimal_leads : (n : ℕ) → n < 2 ^ 64 → (eqb (length (decimal n)) 1 || not (eqb (get_or (decimal n) 0 0) 48)) ≡ true
decimal_leads n h = by (eqb n 0) refl
  where
    by : (is : Bool) → eqb n 0 ≡ is → (eqb (length (decimal n)) 1 || not (eqb (get_or (decimal n) 0 0) 48)) ≡ true
    by true e = or_left _ _ (eq-eqb (length (decimal n)) 1 (omega (arith, eqb-true n 0 e, decimal_nonempty n h, length-decimal-le 1 n (omega arith) (omega (arith, eqb-true n 0 e)) h)))
    by false e =
        let more = first_decimal n (search (rules, tests)) h in
        let first : eqb (get_or (decimal n) 0 0) 48 ≡ false = ne_eqb (get_or (decimal n) 0 0) 48 (λ same. absurd (omega (arith, same, more))) in
        or_right _ _ (not_from_false _ first)

pub plain_number-decimal : (n : ℕ) → n < 2 ^ 64 → plain_number (decimal n) ≡ Some n
plain_number-decimal n h =
    let few = le-leb (length (decimal n)) 38 (omega (arith, length-decimal-le 20 n (omega arith) (omega arith) h)) in
    cond-true _ _ _ (and_from (is_digits (decimal n)) _ (decimal_digits n h) (and_from (leb (length (decimal n)) 38) _ few (decimal_leads n h)))
    ∙ ap Some (decimal_is_IsNumeral n h).1

-- digits, and then blanks
before_blanks : (digits after : List ℕ) → is_digits digits ≡ true → list_all is_blank after ≡ true → number_before_blanks (digits ++ after) ≡ plain_number digits
before_blanks digits after all blanks =
    let digits_pass = (and_parts (ltb 0 (length digits)) (list_all is_ascii_digit digits) all).1 in
    let count = digits_end digits after digits_pass blanks in
    let rest : drop (position_or_len is_no_digit (digits ++ after)) (digits ++ after) ≡ after = ap (λ n. drop n (digits ++ after)) count ∙ drop-append_seam digits after in
    let front : take (position_or_len is_no_digit (digits ++ after)) (digits ++ after) ≡ digits = ap (λ n. take n (digits ++ after)) count ∙ take-append_seam digits after in
    cond-true _ _ _ (ap (list_all is_blank) rest ∙ blanks) ∙ ap plain_number front
  where
    no_digit_blank : (b : ℕ) → is_blank b ≡ true → is_no_digit b ≡ true
    no_digit_blank b h = grind (arith, tests)

    digits_end : (digits after : List ℕ) → list_all is_ascii_digit digits ≡ true → list_all is_blank after ≡ true → position_or_len is_no_digit (digits ++ after) ≡ length digits
    digits_end digits [] h k = ap (position_or_len is_no_digit) (append-nil digits) ∙ place-none is_no_digit digits (none_from_all is_ascii_digit digits h)
    digits_end digits (b ∷ after) h k = place-append is_no_digit digits b after (none_from_all is_ascii_digit digits h) (no_digit_blank b (and_parts (is_blank b) (list_all is_blank after) k).0)

-- blanks, digits, and blanks
spaced_digits : (before digits after : List ℕ) → list_all is_blank before ≡ true → is_digits digits ≡ true → list_all is_blank after ≡ true → spaced_number (before ++ (digits ++ after)) ≡ plain_number digits
spaced_digits before [] after b all a = absurd (search (rules, tests))
spaced_digits before (d ∷ digits) after b all a =
    let digit = and_parts (is_ascii_digit d) (list_all is_ascii_digit digits) (and_parts (ltb 0 (length (d ∷ digits))) (list_all is_ascii_digit (d ∷ digits)) all).1 in
    let start = place-append is_no_blank before d (digits ++ after) (none_from_all is_blank before b) (no_blank_digit d digit.0) in
    ap number_before_blanks (ap (λ n. drop n (before ++ (d ∷ digits ++ after))) start ∙ drop-append_seam before (d ∷ digits ++ after))
    ∙ before_blanks (d ∷ digits) after all a
  where
    no_blank_digit : (b : ℕ) → is_ascii_digit b ≡ true → is_no_blank b ≡ true
    no_blank_digit b h = grind (arith, tests)

pub spaced_number-from : (text : List ℕ) (n : ℕ) → n < 2 ^ 64 → IsSpaced text n → spaced_number text ≡ Some n
spaced_number-from text n small h =
    ap spaced_number (h.is ∙ append_assoc h.before (decimal n) h.after)
    ∙ spaced_digits h.before (decimal n) h.after h.blanks.0 (decimal_digits n small) h.blanks.1
    ∙ plain_number-decimal n small

-- a number without a leading zero is written as it stands
plain_number-is : (text : List ℕ) (n : ℕ) → n < 2 ^ 64 → plain_number text ≡ Some n → text ≡ decimal n
plain_number-is text n small e =
    let parts = cond_some (is_digits text && (leb (length text) 38 && (eqb (length text) 1 || not (eqb (get_or text 0 0) 48)))) (digits_value 10 text) n e in
    let both = and_parts (is_digits text) _ parts.0 in
    let digits = and_parts (ltb 0 (length text)) (list_all is_ascii_digit text) both.0 in
    let leads = (and_parts (leb (length text) 38) _ both.1).1 in
    sym (ap decimal (sym parts.1) ∙ decimal-digits_value all_digits text digits.1 (ltb-true 0 _ digits.0) (one_zero (eqb (length text) 1) leads refl) (omega (arith, parts.1)))
  where
    one_zero : (one : Bool) → (one || not (eqb (get_or text 0 0) 48)) ≡ true → eqb (length text) 1 ≡ one → get_or text 0 0 ≡ 48 → length text ≡ 1
    one_zero true h e zero = eqb-true _ _ e
    one_zero false h e zero = absurd (search (rules, tests))

pub spaced_number-gives : (text : List ℕ) (n : ℕ) → n < 2 ^ 64 → spaced_number text ≡ Some n → IsSpaced text n
spaced_number-gives text n small e =
    let start = position_or_len is_no_blank text in
    let rest = drop start text in
    let count = position_or_len is_no_digit rest in
    let parts = both_some (list_all is_blank (drop count rest)) (plain_number (take count rest)) n e in
    let number = plain_number-is (take count rest) n small parts.1 in
    record {
      before = take start text;
      after = drop count rest;
      is = sym (take-append-drop start text) ∙ ap (λ r. take start text ++ r) (sym (take-append-drop count rest) ∙ ap (λ d. d ++ drop count rest) number) ∙ sym (append_assoc (take start text) (decimal n) (drop count rest));
      blanks = (all_before is_blank text, parts.0);
    }
