-- A mark is read as what was written.
use Rattle.std.proofs.Common.{ap, arith, ◌∙◌}
use Rattle.std.proofs.lemmas.Bool.Decides.{nat_tests}
use Rattle.std.proofs.lemmas.Fmt.{first_decimal}
use Rattle.std.proofs.lemmas.List.{append_assoc}
use Rattle.std.specs.Char.{is_ascii_digit}
use Rattle.std.specs.List.{list_all, list_any}
use Rattle.std.specs.Prelude.{Bool, List, None, Option, Some, [], codes, false, get_or, if◌then◌else◌, is_some, length, nat_lt, not, pos, refl, true, ℕ, ◌<◌, ◌==◌, ◌^◌, ◌&&◌, ◌++◌, ◌∷◌, ◌≡◌}
use Rattle.lq_base.proofs.SpacedLemmas.{decimal_digits}
use Rattle.lq_base.specs.Number.{is_digits, whole_text}
use Rattle.lq_base.specs.Name.{identity_text}
use Rattle.lq_model.proofs.Lists.{and_left, and_right, any_none, or_left, or_right}
use Rattle.lq_turns.specs.Stops.{BareNamesHaveNoMark, MarksAreRead, at_last_bar, begins_with_zero, behind, counts_behind, is_count, is_mark, is_mark_number, undo_text}
use Rattle.lq_turns.specs.declared.turn.Turn.{Turn}
use Rattle.lq_turns.specs.Turn.{mark_text}
use Rattle.lq_turns.proofs.GoesOn.{both_true}

abbrev Parts : Type 0
Parts = Option (List ℕ × List ℕ)

abbrev split_by : ℕ → List ℕ → Parts → Parts
split_by b bs (Some parts) = Some (b ∷ parts.0, parts.1)
split_by b bs None = if b == 124 then Some ([], bs) else None

pub no_bar : (text : List ℕ) → list_any (λ b. b == 124) text ≡ false → at_last_bar text ≡ None
no_bar [] none = refl
no_bar (b ∷ bs) none = ap (split_by b bs) (no_bar bs (or_right (b == 124) _ none)) ∙ ap (λ is. if is then Some ([], bs) else None) (or_left (b == 124) _ none)

pub last_bar : (front back : List ℕ) → list_any (λ b. b == 124) back ≡ false → at_last_bar (front ++ 124 ∷ back) ≡ Some (front, back)
last_bar [] back none = ap (split_by 124 back) (no_bar back none)
last_bar (b ∷ front) back none = ap (split_by b (front ++ 124 ∷ back)) (last_bar front back none)

pub has_bar : (front back : List ℕ) → is_some (at_last_bar (front ++ 124 ∷ back)) ≡ true
has_bar [] back = by (at_last_bar back) where
  by : (o : Parts) → is_some (split_by 124 back o) ≡ true
  by (Some parts) = refl
  by None = refl
has_bar (b ∷ front) back = by (at_last_bar (front ++ 124 ∷ back)) (has_bar front back) where
  by : (o : Parts) → is_some o ≡ true → is_some (split_by b (front ++ 124 ∷ back) o) ≡ true
  by (Some parts) is = refl
  by None is = Prim.cc

digit_no_bar : (b : ℕ) → is_ascii_digit b ≡ true → (b == 124) ≡ false
digit_no_bar b is = grind (arith, nat_tests, is)

digit_no_letter : (b : ℕ) → is_ascii_digit b ≡ true → (117 == b) ≡ false
digit_no_letter b is = grind (arith, nat_tests, is)

no_zero : (text : List ℕ) → 48 < get_or text 0 0 → begins_with_zero text ≡ false
no_zero [] more = refl
no_zero (b ∷ bs) more = above b more where
  above : (b : ℕ) → 48 < b → (b == 48) ≡ false
  above b more = grind (arith, nat_tests, more)

digit_no_back : (b : ℕ) → is_ascii_digit b ≡ true → (98 == b) ≡ false
digit_no_back b is = grind (arith, nat_tests, is)

not_back : (text : List ℕ) → list_all is_ascii_digit text ≡ true → behind (codes "back ") text ≡ None
not_back [] digits = refl
not_back (b ∷ bs) digits = ap (λ is. if is then behind (codes "ack ") bs else None) (digit_no_back b (and_left (is_ascii_digit b) _ digits))

-- a count is no text that begins with a letter
not_undo : (text : List ℕ) → list_all is_ascii_digit text ≡ true → behind (codes "undo ") text ≡ None
not_undo [] digits = refl
not_undo (b ∷ bs) digits = ap (λ is. if is then behind (codes "ndo ") bs else None) (digit_no_letter b (and_left (is_ascii_digit b) _ digits))

abbrev or_count : Bool → Option (List ℕ) → Bool
or_count other o = elim o as (λ _. Bool) [ Some count ↦ is_count count | None ↦ other ]

module _ (k : ℕ) (some : 0 < k) (small : k < 2 ^ 64) where
  digits : is_digits (whole_text (pos k)) ≡ true
  digits = decimal_digits k small

  pub all_digits : list_all is_ascii_digit (whole_text (pos k)) ≡ true
  all_digits = and_right (nat_lt 0 (length (whole_text (pos k)))) _ digits

  counts : is_count (whole_text (pos k)) ≡ true
  counts = both_true digits (ap not (no_zero (whole_text (pos k)) (first_decimal k some small)))

  pub no_bars : (is_undo : Bool) → list_any (λ b. b == 124) (undo_text is_undo ++ whole_text (pos k)) ≡ false
  no_bars true = any_none (λ b. b == 124) is_ascii_digit (whole_text (pos k)) digit_no_bar all_digits
  no_bars false = any_none (λ b. b == 124) is_ascii_digit (whole_text (pos k)) digit_no_bar all_digits

  pub is_number : (is_undo : Bool) → is_mark_number (undo_text is_undo ++ whole_text (pos k)) ≡ true
  is_number true = counts
  is_number false =
      ap (or_count (counts_behind (codes "back ") (whole_text (pos k)) (is_count (whole_text (pos k))))) (not_undo (whole_text (pos k)) all_digits)
      ∙ ap (or_count (is_count (whole_text (pos k)))) (not_back (whole_text (pos k)) all_digits)
      ∙ counts

  pub is_back_number : is_mark_number (codes "back " ++ whole_text (pos k)) ≡ true
  is_back_number = counts

  pub no_bars_back : list_any (λ b. b == 124) (codes "back " ++ whole_text (pos k)) ≡ false
  no_bars_back = any_none (λ b. b == 124) is_ascii_digit (whole_text (pos k)) digit_no_bar all_digits

  module _ (who : List ℕ) (turn : Turn) where
    abbrev whose : List ℕ
    whose = who ++ codes "|" ++ identity_text turn.identity

    parts_are : at_last_bar (mark_text who turn k) ≡ Some (whose, undo_text turn.is_undo ++ whole_text (pos k))
    parts_are = ap at_last_bar (append_assoc (whose ++ codes "|") (undo_text turn.is_undo) (whole_text (pos k)) ∙ append_assoc whose (codes "|") (undo_text turn.is_undo ++ whole_text (pos k))) ∙ last_bar whose (undo_text turn.is_undo ++ whole_text (pos k)) (no_bars turn.is_undo)

    has_first : is_some (at_last_bar whose) ≡ true
    has_first = ap (λ text. is_some (at_last_bar text)) (append_assoc who (codes "|") (identity_text turn.identity)) ∙ has_bar who (identity_text turn.identity)

    marked : is_mark (mark_text who turn k) ≡ true
    marked = ap (λ o. elim o as (λ _. Bool) [ Some parts ↦ is_some (at_last_bar parts.0) && is_mark_number parts.1 | None ↦ false ]) parts_are ∙ both_true has_first (is_number turn.is_undo)

pub marks_are_read : MarksAreRead
marks_are_read who turn k some small = (parts_are k some small who turn, marked k some small who turn)

pub bare_names_have_no_mark : BareNamesHaveNoMark
bare_names_have_no_mark who none = ap (λ o. elim o as (λ _. Bool) [ Some parts ↦ is_some (at_last_bar parts.0) && is_mark_number parts.1 | None ↦ false ]) (no_bar who none)
