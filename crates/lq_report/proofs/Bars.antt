-- Texts cut at their last bar, and what a mark is read as.
use Rattle.std.proofs.Common.{◌≡◌, ◌≢◌, ◌<◌, ◌≤◌, ◌==◌, ◌&&◌, ◌||◌, ◌+◌, ℕ, zero, suc, Bool, true, false, not, List, [], ◌∷◌, ◌++◌, length, take, drop, get_or, Option, Some, None, option_map, option_and_then, codes, arith, refl, sym, ap, subst, ◌∙◌, inl, inr, append_assoc, length-append, nat_lt, slice_index, Bor, if◌then◌else◌}
use Rattle.std.specs.Char.{is_ascii_digit}
use Rattle.std.specs.List.{list_any, list_all, after_first, position_or_len}
use Rattle.std.specs.Option.{MatchOption}
use Rattle.std.specs.Str.{NoCharPasses}
use Rattle.std.specs.Str.Pattern.{RFindsChar}
use Rattle.std.proofs.Math.Seq.{get_or-append_seam, drop-append-add}
use Rattle.std.proofs.lemmas.List.{take-append-drop, drop_all, get_or_append_left}
use Rattle.std.proofs.lemmas.List.Sums.{position_or_len_is}
use borrow.Author.Tests.{ne_eqb}
use Rattle.lq_base.specs.Number.{is_digits}
use Rattle.lq_base.specs.Sql.{begins}
use Rattle.std.proofs.lemmas.Str.Pattern.{NoCharPasses-char, drop_at_char}
use Rattle.std.proofs.lemmas.Bool.{eq-eqb}
use Rattle.std.proofs.lemmas.Bool.Decides.{eqb_tells}
use Rattle.lq_report.specs.declared.mark.Form.{Form}
use Rattle.lq_report.specs.declared.mark.Form.TheVariants.{Back, Run, Undo}
use Rattle.lq_report.specs.Mark.{form_text, at_last_bar, is_count, statement_of, marked, mark_of}
use Rattle.lq_words.specs.Words.{is_bar}
use Rattle.lq_report.specs.Laws.{written, MarksAreRead, NoMarkWithoutBars}

-- the clause of `rsplit_once`
abbrev pub IsRSplitOnceResult : ℕ → List ℕ → Option (Bor (List ℕ) × Bor (List ℕ)) → Type 0
IsRSplitOnceResult c bs r = MatchOption r (RFindsChar c bs None) (λ x. (i : ℕ) × (j : ℕ) × RFindsChar c bs (Some (i, j)) × (x.0.now ≡ take i bs) × (x.1.now ≡ drop j bs) × (i ≤ j) × (length x.0.now ≡ i) × (length x.1.now + j ≡ length bs))

-- no bar stands in a text
abbrev pub HasNoBar : List ℕ → Type 0
HasNoBar text = (i : ℕ) → i < length text → get_or text i 0 ≢ 124

no_bar : (text : List ℕ) → list_any is_bar text ≡ false → HasNoBar text
no_bar [] none i lt e = absurd (omega arith)
no_bar (b ∷ bs) none zero lt e = absurd (both e none)
  where
    both : b ≡ 124 → (is_bar b || list_any is_bar bs) ≡ false → ⊥
    both is none = let yes : is_bar b ≡ true = eq-eqb b 124 is in cc
no_bar (b ∷ bs) none (suc i) lt e = no_bar bs (second (is_bar b) (list_any is_bar bs) none) i (omega arith) e
  where
    second : (x y : Bool) → (x || y) ≡ false → y ≡ false
    second true y none = absurd (cc)
    second false y none = none

pub last_none : (text : List ℕ) → HasNoBar text → at_last_bar text ≡ None
unfolding at_last_bar
last_none [] none = refl
last_none (b ∷ bs) none =
    elim (eqb_tells b 124) [
      | inl same ↦ absurd (none 0 (omega arith) same.1)
      | inr other ↦ rw (last_none bs (λ i lt. none (suc i) (omega arith)), other.0) refl
    ]

pub last_parts : (front behind : List ℕ) → HasNoBar behind → at_last_bar (front ++ 124 ∷ behind) ≡ Some (front, behind)
unfolding at_last_bar
last_parts [] behind none = rw (last_none behind none) refl
last_parts (b ∷ front) behind none = rw (last_parts front behind none) refl

-- what `rsplit_once` tells of its answer
pub last_is : (text : List ℕ) (r : Option (Bor (List ℕ) × Bor (List ℕ))) → IsRSplitOnceResult 124 text r → option_map (λ x. (x.0.now, x.1.now)) r ≡ at_last_bar text
last_is text None h = sym (last_none text (λ i. NoCharPasses-char 124 text i h (omega arith)))
last_is text (Some x) h =
    let none : HasNoBar x.1.now = λ i. NoCharPasses-char 124 x.1.now i (subst (NoCharPasses (λ d. d == 124)) (sym h.4) h.2.0) (omega arith) in
    let whole : text ≡ x.0.now ++ (124 ∷ x.1.now) = sym (take-append-drop h.0 text) ∙ (λ k. sym h.3 k ++ (drop_at_char 124 text h.0 h.1 h.2.1 (omega arith) ∙ ap (λ l. 124 ∷ l) (sym h.4)) k) in
    sym (rw whole (last_parts x.0.now x.1.now none))

-- a text of which nothing stands behind the first bar
pub no_mark : NoMarkWithoutBars
unfolding mark_of
no_mark by none = rw (last_none (after_first is_bar by) (no_bar (after_first is_bar by) none)) refl

pub no_bar_no_mark : (by : List ℕ) → position_or_len is_bar by ≡ length by → mark_of by ≡ None
unfolding mark_of at_last_bar
no_bar_no_mark by none =
    let nothing : after_first is_bar by ≡ [] = drop_all (position_or_len is_bar by + 1) by (omega arith) in
    rw nothing refl

-- ---- a mark that was written

behind_first : (who rest : List ℕ) → list_any is_bar who ≡ false → after_first is_bar (who ++ 124 ∷ rest) ≡ rest
behind_first who rest none =
    let free : HasNoBar who = no_bar who none in
    let long : length (who ++ 124 ∷ rest) ≡ length who + suc (length rest) = length-append who (124 ∷ rest) in
    let at : position_or_len is_bar (who ++ 124 ∷ rest) ≡ length who =
    position_or_len_is is_bar (who ++ 124 ∷ rest) (length who) 0 (omega arith)
    (λ k lt. ne_eqb _ 124 (λ e. free k lt (sym (get_or_append_left who (124 ∷ rest) 0 k lt) ∙ e)))
    (λ _. eq-eqb _ 124 (get_or-append_seam who 124 rest 0)) in
    ap (λ n. drop (n + 1) (who ++ 124 ∷ rest)) at ∙ drop-append-add who (124 ∷ rest) 1

no_bar_cons : (b : ℕ) (bs : List ℕ) → b ≢ 124 → HasNoBar bs → HasNoBar (b ∷ bs)
no_bar_cons b bs other none zero lt = other
no_bar_cons b bs other none (suc i) lt = none i (omega arith)

both : (x y : Bool) → (x && y) ≡ true → (x ≡ true) × (y ≡ true)
both true y e = (refl, e)
both false y e = absurd (cc)

digits_no_bar : (bs : List ℕ) → list_all is_ascii_digit bs ≡ true → HasNoBar bs
digits_no_bar [] all = λ i lt e. absurd (omega arith)
digits_no_bar (b ∷ bs) all =
    let parts = both (is_ascii_digit b) (list_all is_ascii_digit bs) all in
    no_bar_cons b bs (λ e. let no : is_ascii_digit 124 ≡ true = subst (λ z. is_ascii_digit z ≡ true) e parts.0 in absurd (cc)) (digits_no_bar bs parts.1)

digits_no_word : (w : ℕ) (word bs : List ℕ) → is_ascii_digit w ≡ false → list_all is_ascii_digit bs ≡ true → begins (w ∷ word) bs ≡ false
digits_no_word w word [] letter all = refl
digits_no_word w word (b ∷ bs) letter all =
    let parts = both (is_ascii_digit b) (list_all is_ascii_digit bs) all in
    elim (eqb_tells w b) [
      | inl same ↦ (let no : is_ascii_digit w ≡ true = subst (λ z. is_ascii_digit z ≡ true) (sym same.1) parts.0 in absurd (cc))
      | inr other ↦ rw other.0 refl
    ]

-- the end of a mark has no bar, and is read as what was written
ending : Form → List ℕ → List ℕ
ending form statement = form_text form ++ statement

ending_no_bar : (form : Form) (statement : List ℕ) → list_all is_ascii_digit statement ≡ true → HasNoBar (ending form statement)
unfolding ending
ending_no_bar Run statement all = digits_no_bar statement all
ending_no_bar Undo statement all =
    no_bar_cons 117 (110 ∷ 100 ∷ 111 ∷ 32 ∷ statement) (λ e. omega arith)
    (no_bar_cons 110 (100 ∷ 111 ∷ 32 ∷ statement) (λ e. omega arith)
    (no_bar_cons 100 (111 ∷ 32 ∷ statement) (λ e. omega arith)
    (no_bar_cons 111 (32 ∷ statement) (λ e. omega arith)
    (no_bar_cons 32 statement (λ e. omega arith) (digits_no_bar statement all)))))
ending_no_bar Back statement all =
    no_bar_cons 98 (97 ∷ 99 ∷ 107 ∷ 32 ∷ statement) (λ e. omega arith)
    (no_bar_cons 97 (99 ∷ 107 ∷ 32 ∷ statement) (λ e. omega arith)
    (no_bar_cons 99 (107 ∷ 32 ∷ statement) (λ e. omega arith)
    (no_bar_cons 107 (32 ∷ statement) (λ e. omega arith)
    (no_bar_cons 32 statement (λ e. omega arith) (digits_no_bar statement all)))))

ending_read : (form : Form) (statement : List ℕ) → list_all is_ascii_digit statement ≡ true → statement_of (ending form statement) ≡ (form, statement)
unfolding ending
ending_read Run statement all = rw (digits_no_word 117 (codes "ndo ") statement refl all, digits_no_word 98 (codes "ack ") statement refl all) refl
ending_read Undo statement all = refl
ending_read Back statement all = refl

ending_marked : (identity statement : List ℕ) (form : Form) → is_count statement ≡ true → marked identity (form, statement) ≡ Some (identity, form, statement)
ending_marked identity statement form is = rw is refl

written_parts : (who identity statement : List ℕ) (form : Form) → written who identity form statement ≡ who ++ 124 ∷ (identity ++ 124 ∷ ending form statement)
unfolding ending
written_parts who identity statement form = simp append_assoc

pub read : MarksAreRead
unfolding mark_of
read who identity statement form none is =
    let digits = both (is_digits statement) (not (slice_index statement 0 == 48)) is in
    let all = both (nat_lt 0 (length statement)) (list_all is_ascii_digit statement) digits.0 in
    ap (λ by. option_and_then (λ parts. marked parts.0 (statement_of parts.1)) (at_last_bar (after_first is_bar by))) (written_parts who identity statement form)
    ∙ ap (λ rest. option_and_then (λ parts. marked parts.0 (statement_of parts.1)) (at_last_bar rest)) (behind_first who (identity ++ 124 ∷ ending form statement) none)
    ∙ ap (option_and_then (λ parts. marked parts.0 (statement_of parts.1))) (last_parts identity (ending form statement) (ending_no_bar form statement all.1))
    ∙ ap (marked identity) (ending_read form statement all.1)
    ∙ ending_marked identity statement form is
