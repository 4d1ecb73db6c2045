-- A mark that was written is read.
use Rattle.std.proofs.Common.{ap, append_assoc, arith, get_or, length-append, refl, sym, ◌∙◌}
use Rattle.std.proofs.Math.Seq.{get_or-append_seam, take-append_seam}
use Rattle.std.proofs.lemmas.Bool.{eq-eqb}
use Rattle.std.proofs.lemmas.List.{get_or_append_left}
use Rattle.std.proofs.lemmas.List.Sums.{position_or_len_is}
use Rattle.std.specs.List.{before_first, list_any, position_or_len}
use Rattle.std.specs.Prelude.{Bool, List, None, Some, [], codes, false, if◌then◌else◌, length, option_and_then, pos, suc, take, true, zero, ℕ, ◌+◌, ◌<◌, ◌++◌, ◌∷◌, ◌≡◌}
use Rattle.lq_base.proofs.SpacedLemmas.{plain_number-decimal}
use Rattle.lq_base.specs.Number.{whole_text}
use Rattle.lq_model.proofs.Lists.{or_left, or_right}
use Rattle.lq_report.proofs.Bars.{read}
use Rattle.lq_report.specs.Laws.{written}
use Rattle.lq_report.specs.Mark.{is_count, lock_mark, mark_of}
use Rattle.lq_report.specs.declared.mark.Form.{Form}
use Rattle.lq_report.specs.declared.mark.Form.TheVariants.{Back, Run}
use Rattle.lq_turns.proofs.MarkRead.{is_back_number}
use Rattle.lq_turns.specs.Stops.{is_count as counts_text}
use Rattle.lq_words.specs.Words.{is_bar}
use Rattle.lq_unrecorded.specs.Laws.{MarksAreParts}
use Rattle.lq_unrecorded.specs.Part.{if_part, is_back, number_in}

abbrev form_of : Bool → Form
form_of true = Back
form_of false = Run

no_bar_at : (who : List ℕ) → list_any is_bar who ≡ false → (k : ℕ) → k < length who → is_bar (get_or who k 0) ≡ false
no_bar_at [] none k lt = absurd (omega arith)
no_bar_at (b ∷ who) none zero lt = or_left (is_bar b) _ none
no_bar_at (b ∷ who) none (suc k) lt = no_bar_at who (or_right (is_bar b) _ none) k (omega arith)

first_bar : (who rest : List ℕ) → list_any is_bar who ≡ false → position_or_len is_bar (who ++ 124 ∷ rest) ≡ length who
first_bar who rest none =
    let long : length (who ++ 124 ∷ rest) ≡ length who + suc (length rest) = length-append who (124 ∷ rest) in
    position_or_len_is is_bar (who ++ 124 ∷ rest) (length who) 0 (omega arith) (λ k lt. ap is_bar (get_or_append_left who (124 ∷ rest) 0 k lt) ∙ no_bar_at who none k lt)
    (λ _. eq-eqb _ 124 (get_or-append_seam who 124 rest 0))

before_who : (who rest : List ℕ) → list_any is_bar who ≡ false → before_first is_bar (who ++ 124 ∷ rest) ≡ who
before_who who rest none = ap (λ n. take n (who ++ 124 ∷ rest)) (first_bar who rest none) ∙ take-append_seam who (124 ∷ rest)

same_count : (text : List ℕ) → counts_text text ≡ is_count text
same_count [] = refl
same_count (b ∷ bs) = refl

cut : (who name form digits : List ℕ) → who ++ codes "|" ++ name ++ codes "|" ++ form ++ digits ≡ who ++ 124 ∷ (name ++ 124 ∷ (form ++ digits))
cut who name form digits = simp append_assoc

same_text : (is_back : Bool) (who name digits : List ℕ) → who ++ codes "|" ++ name ++ codes "|" ++ (if is_back then codes "back " else []) ++ digits ≡ written who name (form_of is_back) digits
same_text true who name digits = refl
same_text false who name digits = refl

part_of : (is_back : Bool) (name digits : List ℕ) → if_part (name, form_of is_back, digits) ≡ Some (name, form_of is_back, digits)
part_of true name digits = refl
part_of false name digits = refl

back_of : (b : Bool) → is_back (form_of b) ≡ b
back_of true = refl
back_of false = refl

pub parts : MarksAreParts
parts lock mark locked =
    let digits = whole_text (pos (suc mark.k)) in
    let counts : is_count digits ≡ true = sym (same_count digits) ∙ is_back_number (suc mark.k) (omega arith) mark.small in
    let is_read : lock_mark lock ≡ Some (mark.name, form_of mark.is_back, digits) =
    ap (option_and_then mark_of) mark.is
    ∙ (ap mark_of (same_text mark.is_back mark.who mark.name digits) ∙ read mark.who mark.name digits (form_of mark.is_back) mark.plain counts) in
    record {
      form = form_of mark.is_back;
      digits = digits;
      part =
          ap (λ b. if b then option_and_then if_part (lock_mark lock) else None) locked
          ∙ (ap (option_and_then if_part) is_read ∙ part_of mark.is_back mark.name digits);
      back = back_of mark.is_back;
      number = ap number_in (plain_number-decimal (suc mark.k) mark.small);
      who =
          ap (λ by. before_first is_bar (elim by [ Some text ↦ text | None ↦ [] ])) mark.is
          ∙ (ap (before_first is_bar) (cut mark.who mark.name (if mark.is_back then codes "back " else []) digits)
          ∙ before_who mark.who (mark.name ++ 124 ∷ ((if mark.is_back then codes "back " else []) ++ digits)) mark.plain);
    }
