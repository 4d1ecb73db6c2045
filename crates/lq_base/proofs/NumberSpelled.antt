-- The number that is read is the one that the text spells.
use Rattle.std.proofs.Common.{◌≡◌, ◌≢◌, ℕ, ◌+◌, ◌≤◌, Bool, true, false, cond, ◌&&◌, ltb, leb, eqb, List, [], ◌∷◌, ◌++◌, length, drop, get_or, Some, refl, ap, ◌∙◌, sym, subst, append_assoc, append-nil, arith, rules, tests}
use Rattle.std.specs.Char.{is_ascii_digit}
use Rattle.std.specs.Fmt.{sign_text}
use Rattle.std.specs.List.{list_all, position_or_len, before_first, after_first}
use Rattle.std.specs.Str.Parse.{digits_value, starts_with_minus}
use Rattle.std.proofs.lemmas.Bool.{and_parts, and_from, eqb-true, leb-true, le-leb, ltb-true, cond-true, cond-false}
use Rattle.std.proofs.lemmas.Option.{cond_some}
use Rattle.lq_base.specs.declared.literal.Literal.{Literal}
use Rattle.lq_base.specs.declared.literal.Literal.TheVariants.{Null, Int, Fixed, Text, Bool as Truth}
use Rattle.lq_base.specs.Number.{is_digits, is_dot, signed, without_minus, whole_number, decimal_number, unsigned_number, number_of}
use Rattle.lq_base.specs.Spells.{SpellsNumber}
use Rattle.lq_base.proofs.SplitLemmas.{Lacks, at_split, lacks_from_all, split_none, split_place}

-- what stands before the digits
sign_and_rest : (text : List ℕ) → text ≡ sign_text (starts_with_minus text) ++ without_minus text
sign_and_rest [] = refl
sign_and_rest (b ∷ text) = by (eqb b 45) refl
  where
    by : (is : Bool) → eqb b 45 ≡ is → b ∷ text ≡ sign_text is ++ cond is text (b ∷ text)
    by true e = ap (λ x. x ∷ text) (eqb-true b 45 e)
    by false e = refl

whole-spells : (text rest : List ℕ) (negative : Bool) (number : Literal) → text ≡ sign_text negative ++ rest → whole_number negative rest ≡ Some number → SpellsNumber text number
whole-spells text rest negative number is e =
    let parts = cond_some (is_digits rest && leb (length rest) 38) (Int (signed negative (digits_value 10 rest))) number e in
    let tests_ = and_parts (is_digits rest) (leb (length rest) 38) parts.0 in
    subst (λ l. SpellsNumber text l) parts.1 (record { negative = negative; digits = rest; is = is; are_digits = tests_.0; few = leb-true _ _ tests_.1; value = refl })

decimal-spells : (text whole fraction : List ℕ) (negative : Bool) (number : Literal) → text ≡ sign_text negative ++ whole ++ 46 ∷ fraction → decimal_number negative whole fraction ≡ Some number → SpellsNumber text number
decimal-spells text whole fraction negative number is e =
    let parts = cond_some ((is_digits whole && is_digits fraction) && leb (length whole + length fraction) 38) (Fixed (signed negative (digits_value 10 (whole ++ fraction))) (length fraction)) number e in
    let tests_ = and_parts (is_digits whole && is_digits fraction) (leb (length whole + length fraction) 38) parts.0 in
    let digits = and_parts (is_digits whole) (is_digits fraction) tests_.0 in
    subst (λ l. SpellsNumber text l) parts.1 (record { negative = negative; whole = whole; fraction = fraction; is = is; are_digits = digits; few = leb-true _ _ tests_.1; value = refl; scale_is = refl })

unsigned-spells : (text rest : List ℕ) (negative : Bool) (number : Literal) → text ≡ sign_text negative ++ rest → unsigned_number negative rest ≡ Some number → SpellsNumber text number
unsigned-spells text rest negative number is = by (ltb (position_or_len is_dot rest) (length rest)) refl
  where
    by : (dot : Bool) → ltb (position_or_len is_dot rest) (length rest) ≡ dot → cond dot (decimal_number negative (before_first is_dot rest) (after_first is_dot rest)) (whole_number negative rest) ≡ Some number → SpellsNumber text number
    by true f e = decimal-spells text (before_first is_dot rest) (after_first is_dot rest) negative number (is ∙ ap (λ r. sign_text negative ++ r) (split_place 46 rest (ltb-true _ _ f)) ∙ sym (append_assoc (sign_text negative) (before_first is_dot rest) (46 ∷ after_first is_dot rest))) e
    by false f e = whole-spells text rest negative number is e

pub number_of-spells : (text : List ℕ) (number : Literal) → number_of text ≡ Some number → SpellsNumber text number
unfolding number_of
number_of-spells text number e = unsigned-spells text (without_minus text) (starts_with_minus text) number (sign_and_rest text) e

-- digits begin with no `-`
unsigned_rest : (negative : Bool) (rest : List ℕ) → get_or rest 0 0 ≢ 45 → number_of (sign_text negative ++ rest) ≡ unsigned_number negative rest
unfolding number_of
unsigned_rest true rest h = refl
unsigned_rest false rest h = by (eqb (get_or rest 0 0) 45) refl
  where
    by : (is : Bool) → eqb (get_or rest 0 0) 45 ≡ is → unsigned_number is (cond is (drop 1 rest) rest) ≡ unsigned_number false rest
    by true e = absurd (h (eqb-true _ _ e))
    by false e = refl

digits_no_minus : (digits more : List ℕ) → is_digits digits ≡ true → get_or (digits ++ more) 0 0 ≢ 45
digits_no_minus [] more e = absurd (search (rules, tests))
digits_no_minus (d ∷ digits) more e =
    let all = and_parts (ltb 0 (length (d ∷ digits))) (list_all is_ascii_digit (d ∷ digits)) e in
    let first = and_parts (is_ascii_digit d) (list_all is_ascii_digit digits) all.1 in
    let low = leb-true 48 d (and_parts (leb 48 d) (leb d 57) first.0).0 in
    λ h. absurd (omega (arith, h))

digits_lack_dot : (digits : List ℕ) → is_digits digits ≡ true → Lacks 46 digits
digits_lack_dot digits h = lacks_from_all is_ascii_digit 46 refl digits (and_parts (ltb 0 (length digits)) (list_all is_ascii_digit digits) h).1

whole_is_number : (digits : List ℕ) (negative : Bool) → is_digits digits ≡ true → length digits ≤ 38 → unsigned_number negative digits ≡ Some (Int (signed negative (digits_value 10 digits)))
whole_is_number digits negative all few =
    cond-false _ _ _ (split_none 46 digits (digits_lack_dot digits all))
    ∙ cond-true _ _ _ (and_from (is_digits digits) (leb (length digits) 38) all (le-leb _ _ few))

decimal_is_number : (whole fraction : List ℕ) (negative : Bool) → is_digits whole ≡ true → is_digits fraction ≡ true → length whole + length fraction ≤ 38
    → unsigned_number negative (whole ++ 46 ∷ fraction) ≡ Some (Fixed (signed negative (digits_value 10 (whole ++ fraction))) (length fraction))
decimal_is_number whole fraction negative first second few =
    at_split (decimal_number negative) (whole_number negative (whole ++ 46 ∷ fraction)) 46 whole fraction (digits_lack_dot whole first)
    ∙ cond-true _ _ _ (and_from (is_digits whole && is_digits fraction) (leb (length whole + length fraction) 38) (and_from (is_digits whole) (is_digits fraction) first second) (le-leb _ _ few))

pub spells-number_of : (text : List ℕ) (number : Literal) → SpellsNumber text number → number_of text ≡ Some number
spells-number_of text (Int n) h =
    ap number_of h.is
    ∙ unsigned_rest h.negative h.digits (rw (← append-nil h.digits) (digits_no_minus h.digits [] h.are_digits))
    ∙ whole_is_number h.digits h.negative h.are_digits h.few
    ∙ ap (λ z. Some (Int z)) (sym h.value)
spells-number_of text (Fixed units scale) h =
    ap number_of (h.is ∙ append_assoc (sign_text h.negative) h.whole (46 ∷ h.fraction))
    ∙ unsigned_rest h.negative (h.whole ++ 46 ∷ h.fraction) (digits_no_minus h.whole (46 ∷ h.fraction) h.are_digits.0)
    ∙ decimal_is_number h.whole h.fraction h.negative h.are_digits.0 h.are_digits.1 h.few
    ∙ ap (λ z. Some (Fixed z (length h.fraction))) (sym h.value) ∙ ap (λ n. Some (Fixed units n)) (sym h.scale_is)
spells-number_of text Null h = absurd h
spells-number_of text (Text t) h = absurd h
spells-number_of text (Truth b) h = absurd h
