-- Texts cut at a mark.
use Rattle.std.proofs.Common.{◌≡◌, ◌≢◌, ◌<◌, ◌==◌, ℕ, suc, true, false, cond, List, [], ◌∷◌, ◌++◌, length, get_or, Option, Some, None, IfSome, option_map, unwrap_or, Bor, codes, arith, refl, sym, ap, ◌∙◌, inl, inr, append_assoc}
use Rattle.std.specs.Option.{MatchOption}
use Rattle.std.proofs.lemmas.Bool.{eq-eqb}
use Rattle.std.proofs.lemmas.Bool.Decides.{eqb_tells}
use Rattle.lq_props.specs.Replaced.{before, cut_at, longer, pieces, use_behind, closed, closed_pieces, replaced}

-- ---- what is cut off is shorter

shorter_before : (b : ℕ) (bs : List ℕ) (o : Option (List ℕ × List ℕ)) → IfSome o (λ p. length p.1 < length bs) → IfSome (before b o) (λ p. length p.1 < length (b ∷ bs))
shorter_before b bs None h = tt
shorter_before b bs (Some p) h = omega arith

pub cut_shorter : (mark : ℕ) (text : List ℕ) → IfSome (cut_at mark text) (λ p. length p.1 < length text)
unfolding cut_at
cut_shorter mark [] = tt
cut_shorter mark (b ∷ bs) =
    elim (b == mark) as (λ t. (let at : Option (List ℕ × List ℕ) = cond t (Some ([], bs)) (before b (cut_at mark bs)) in IfSome at (λ p. length p.1 < length (b ∷ bs)))) [
      | true ↦ omega arith
      | false ↦ shorter_before b bs (cut_at mark bs) (cut_shorter mark bs)
    ]

-- ---- where a text is cut

pub cut_parts : (mark : ℕ) (front behind : List ℕ) → ((i : ℕ) → i < length front → get_or front i 0 ≢ mark) → cut_at mark (front ++ mark ∷ behind) ≡ Some (front, behind)
unfolding cut_at
cut_parts mark [] behind none = rw (eq-eqb mark mark refl) refl
cut_parts mark (b ∷ front) behind none =
    elim (eqb_tells b mark) [
      | inl same ↦ absurd (none 0 (omega arith) same.1)
      | inr other ↦ rw other.0 (ap (before b) (cut_parts mark front behind (λ i lt. none (suc i) (omega arith))))
    ]

pub cut_none : (mark : ℕ) (text : List ℕ) → ((i : ℕ) → i < length text → get_or text i 0 ≢ mark) → cut_at mark text ≡ None
unfolding cut_at
cut_none mark [] none = refl
cut_none mark (b ∷ bs) none =
    elim (eqb_tells b mark) [
      | inl same ↦ absurd (none 0 (omega arith) same.1)
      | inr other ↦ rw other.0 (ap (before b) (cut_none mark bs (λ i lt. none (suc i) (omega arith))))
    ]

-- what `split_once` tells of its answer
pub cut_is : (mark : ℕ) (text : List ℕ) (r : Option (Bor (List ℕ) × Bor (List ℕ)))
    → MatchOption r ((i : ℕ) → i < length text → get_or text i 0 ≢ mark) (λ x. (text ≡ x.0.now ++ (mark ∷ x.1.now)) × ((i : ℕ) → i < length x.0.now → get_or x.0.now i 0 ≢ mark))
    → option_map (λ x. (x.0.now, x.1.now)) r ≡ cut_at mark text
cut_is mark text None none = sym (cut_none mark text none)
cut_is mark text (Some x) split = sym (rw split.0 (cut_parts mark x.0.now x.1.now split.1))

pub no_use : (value : List ℕ → Option (List ℕ)) (behind : List ℕ) → ((name : List ℕ) → behind ≢ 123 ∷ name) → use_behind value behind ≡ None
no_use value [] none = refl
no_use value (b ∷ name) none =
    elim (eqb_tells b 123) [
      | inl same ↦ absurd (none name (ap (λ z. z ∷ name) same.1))
      | inr other ↦ rw other.0 refl
    ]

-- ---- the pieces of a text

pieces_from : List ℕ → Option (List ℕ × List ℕ) → List (List ℕ)
pieces_from text None = text ∷ []
pieces_from text (Some p) = p.0 ∷ pieces p.1

longer_pieces : (b : ℕ) (bs : List ℕ) (o : Option (List ℕ × List ℕ)) → longer b (pieces_from bs o) ≡ pieces_from (b ∷ bs) (before b o)
unfolding pieces_from
longer_pieces b bs None = refl
longer_pieces b bs (Some p) = refl

pieces_cut : (text : List ℕ) → pieces text ≡ pieces_from text (cut_at 125 text)
unfolding cut_at pieces pieces_from
pieces_cut [] = refl
pieces_cut (b ∷ bs) =
    elim (b == 125) as (λ t. (let at : Option (List ℕ × List ℕ) = cond t (Some ([], bs)) (before b (cut_at 125 bs)) in cond t ([] ∷ pieces bs) (longer b (pieces bs)) ≡ pieces_from (b ∷ bs) at)) [
      | true ↦ refl
      | false ↦ ap (longer b) (pieces_cut bs) ∙ longer_pieces b bs (cut_at 125 bs)
    ]

first_piece : (value : List ℕ → Option (List ℕ)) (piece : List ℕ) (text : List ℕ) (o : Option (List ℕ × List ℕ)) → closed_pieces value (piece ∷ pieces_from text o) ≡ closed value piece ++ closed_pieces value (pieces_from text o)
unfolding pieces_from
first_piece value piece text None = refl
first_piece value piece text (Some p) = refl

pub replaced_cut : (value : List ℕ → Option (List ℕ)) (text piece behind : List ℕ) → cut_at 125 text ≡ Some (piece, behind) → replaced value text ≡ closed value piece ++ replaced value behind
unfolding replaced pieces_from
replaced_cut value text piece behind is =
    rw (pieces_cut text, is) (ap (λ z. closed_pieces value (piece ∷ z)) (pieces_cut behind) ∙ first_piece value piece behind (cut_at 125 behind) ∙ ap (λ z. closed value piece ++ closed_pieces value z) (sym (pieces_cut behind)))

pub replaced_last : (value : List ℕ → Option (List ℕ)) (text : List ℕ) → cut_at 125 text ≡ None → replaced value text ≡ text
unfolding replaced pieces_from
replaced_last value text is = rw (pieces_cut text, is) refl

-- ---- the uses in a piece

closed_from : (List ℕ → Option (List ℕ)) → List ℕ → Option (List ℕ × List ℕ) → List ℕ
closed_from value text None = text ++ codes "}"
closed_from value text (Some p) = p.0 ++ unwrap_or (use_behind value p.1) (36 ∷ closed value p.1)

closed_before : (value : List ℕ → Option (List ℕ)) (b : ℕ) (bs : List ℕ) (o : Option (List ℕ × List ℕ)) → b ∷ closed_from value bs o ≡ closed_from value (b ∷ bs) (before b o)
unfolding closed_from
closed_before value b bs None = refl
closed_before value b bs (Some p) = refl

closed_at : (value : List ℕ → Option (List ℕ)) (text : List ℕ) → closed value text ≡ closed_from value text (cut_at 36 text)
unfolding cut_at closed closed_from
closed_at value [] = refl
closed_at value (b ∷ bs) =
    elim (b == 36) as (λ t. (let at : Option (List ℕ × List ℕ) = cond t (Some ([], bs)) (before b (cut_at 36 bs)) in
    cond t (unwrap_or (use_behind value bs) (36 ∷ closed value bs)) (b ∷ closed value bs) ≡ closed_from value (b ∷ bs) at)) [
      | true ↦ refl
      | false ↦ ap (λ z. b ∷ z) (closed_at value bs) ∙ closed_before value b bs (cut_at 36 bs)
    ]

pub closed_use : (value : List ℕ → Option (List ℕ)) (text front behind found : List ℕ) → cut_at 36 text ≡ Some (front, behind) → use_behind value behind ≡ Some found → closed value text ≡ front ++ found
unfolding closed_from
closed_use value text front behind found is has = closed_at value text ∙ rw (is, has) refl

pub closed_on : (value : List ℕ → Option (List ℕ)) (text front behind : List ℕ) → cut_at 36 text ≡ Some (front, behind) → use_behind value behind ≡ None → closed value text ≡ front ++ 36 ∷ closed value behind
unfolding closed_from
closed_on value text front behind is no_value = closed_at value text ∙ rw (is, no_value) refl

pub closed_last : (value : List ℕ → Option (List ℕ)) (text : List ℕ) → cut_at 36 text ≡ None → closed value text ≡ text ++ codes "}"
unfolding closed_from
closed_last value text is = closed_at value text ∙ rw is refl

-- ---- one step of replacing

pub use_step : (value : List ℕ → Option (List ℕ)) (all made next new rest front behind found : List ℕ) → cut_at 36 rest ≡ Some (front, behind) → use_behind value behind ≡ Some found
    → next ≡ made ++ front → new ≡ next ++ found → made ++ closed value rest ≡ all → new ≡ all
use_step value all made next new rest front behind found is has one two so =
    two ∙ ap (λ z. z ++ found) one ∙ append_assoc made front found ∙ ap (λ z. made ++ z) (sym (closed_use value rest front behind found is has)) ∙ so

pub on_step : (value : List ℕ → Option (List ℕ)) (all made next new rest front behind : List ℕ) → cut_at 36 rest ≡ Some (front, behind) → use_behind value behind ≡ None
    → next ≡ made ++ front → new ≡ next ++ codes "$" → made ++ closed value rest ≡ all → new ++ closed value behind ≡ all
on_step value all made next new rest front behind is none one two so =
    rw (two, one) (append_assoc (made ++ front) (codes "$") (closed value behind) ∙ append_assoc made front (36 ∷ closed value behind)
    ∙ ap (λ z. made ++ z) (sym (closed_on value rest front behind is none)) ∙ so)

pub end_step : (value : List ℕ → Option (List ℕ)) (all made next new rest : List ℕ) → cut_at 36 rest ≡ None → next ≡ made ++ rest → new ≡ next ++ codes "}" → made ++ closed value rest ≡ all → new ≡ all
end_step value all made next new rest is one two so =
    two ∙ ap (λ z. z ++ codes "}") one ∙ append_assoc made rest (codes "}") ∙ ap (λ z. made ++ z) (sym (closed_last value rest is)) ∙ so

pub piece_step : (value : List ℕ → Option (List ℕ)) (all made next rest piece behind : List ℕ) → cut_at 125 rest ≡ Some (piece, behind) → next ≡ made ++ closed value piece
    → made ++ replaced value rest ≡ all → next ++ replaced value behind ≡ all
piece_step value all made next rest piece behind is one so =
    rw one (append_assoc made (closed value piece) (replaced value behind) ∙ ap (λ z. made ++ z) (sym (replaced_cut value rest piece behind is)) ∙ so)

pub last_step : (value : List ℕ → Option (List ℕ)) (all made new rest : List ℕ) → cut_at 125 rest ≡ None → new ≡ made ++ rest → made ++ replaced value rest ≡ all → new ≡ all
last_step value all made new rest is one so = one ∙ ap (λ z. made ++ z) (sym (replaced_last value rest is)) ∙ so
