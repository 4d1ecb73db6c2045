-- The parts of words, one after another.
use Rattle.std.proofs.Common.{◌≡◌, ◌<◌, ◌≤◌, ◌+◌, ◌-◌, ℕ, suc, true, false, cond, List, [], ◌∷◌, length, take, drop, get_or, arith, refl, sym, ap, ◌∙◌}
use Rattle.std.proofs.lemmas.List.{drop_more, drop_all, take_rest}
use Rattle.lq_operators.specs.declared.operator.Operator.{Operator}
use Rattle.lq_operators.specs.declared.word.Word.{Word}
use Rattle.lq_operators.specs.declared.word.Word.TheVariants as word
use Rattle.lq_expr.specs.Grammar.{is_cut, depth_after, cut}
use Rattle.lq_expr.specs.Words.{longer}
use Rattle.lq_expr.specs.Cuts.{place}

pub cut_here : (operator : Operator) (depth : ℕ) (ws : List Word) → place operator depth ws < length ws
    → cut operator depth ws ≡ take (place operator depth ws) ws ∷ cut operator 0 (drop (suc (place operator depth ws)) ws)
unfolding place cut
cut_here operator depth [] h = absurd (omega arith)
cut_here operator depth (w ∷ ws) h =
    elim (is_cut operator depth w) as (λ b. (let at : ℕ = cond b 0 (suc (place operator (depth_after w depth) ws)) in
    at < length (w ∷ ws) → cond b ([] ∷ cut operator 0 ws) (longer w (cut operator (depth_after w depth) ws)) ≡ take at (w ∷ ws) ∷ cut operator 0 (drop (suc at) (w ∷ ws)))) [
      | true ↦ λ h. refl
      | false ↦ λ h. ap (longer w) (cut_here operator (depth_after w depth) ws (omega arith))
    ] h

pub cut_all : (operator : Operator) (depth : ℕ) (ws : List Word) → length ws ≤ place operator depth ws → cut operator depth ws ≡ ws ∷ []
unfolding place cut
cut_all operator depth [] h = refl
cut_all operator depth (w ∷ ws) h =
    elim (is_cut operator depth w) as (λ b. length (w ∷ ws) ≤ cond b 0 (suc (place operator (depth_after w depth) ws))
    → cond b ([] ∷ cut operator 0 ws) (longer w (cut operator (depth_after w depth) ws)) ≡ (w ∷ ws) ∷ []) [
      | true ↦ λ h. absurd (omega arith)
      | false ↦ λ h. ap (longer w) (cut_all operator (depth_after w depth) ws (omega arith))
    ] h

place_now : (operator : Operator) (depth : ℕ) (w : Word) (ws : List Word) → is_cut operator depth w ≡ true → place operator depth (w ∷ ws) ≡ 0
unfolding place
place_now operator depth w ws is = rw is refl

place_later : (operator : Operator) (depth : ℕ) (w : Word) (ws : List Word) → is_cut operator depth w ≡ false → place operator depth (w ∷ ws) ≡ suc (place operator (depth_after w depth) ws)
unfolding place
place_later operator depth w ws is = rw is refl

place_none : (operator : Operator) (depth : ℕ) → place operator depth [] ≡ 0
unfolding place
place_none operator depth = refl

pub found_at : (operator : Operator) (depth : ℕ) (w : Word) (ws : List Word) (i whole : ℕ) → i < length ws → w ≡ get_or ws i w → is_cut operator depth w ≡ true
    → whole ≡ i + place operator depth (drop i ws) → i ≡ whole
found_at operator depth w ws i whole lt at is so =
    let split : drop i ws ≡ w ∷ drop (i + 1) ws = drop_more ws i w lt ∙ ap (λ z. z ∷ drop (i + 1) ws) (sym at) in
    let none : place operator depth (drop i ws) ≡ 0 = ap (place operator depth) split ∙ place_now operator depth w _ is in
    omega arith

pub found_later : (operator : Operator) (depth next : ℕ) (w : Word) (ws : List Word) (i whole : ℕ) → i < length ws → w ≡ get_or ws i w → is_cut operator depth w ≡ false → next ≡ depth_after w depth
    → whole ≡ i + place operator depth (drop i ws) → whole ≡ (i + 1) + place operator next (drop (i + 1) ws)
found_later operator depth next w ws i whole lt at is deeper so =
    let split : drop i ws ≡ w ∷ drop (i + 1) ws = drop_more ws i w lt ∙ ap (λ z. z ∷ drop (i + 1) ws) (sym at) in
    let one : place operator depth (drop i ws) ≡ suc (place operator (depth_after w depth) (drop (i + 1) ws)) = ap (place operator depth) split ∙ place_later operator depth w _ is in
    let same : place operator (depth_after w depth) (drop (i + 1) ws) ≡ place operator next (drop (i + 1) ws) = ap (λ d. place operator d (drop (i + 1) ws)) (sym deeper) in
    omega arith

pub found_none : (operator : Operator) (depth : ℕ) (ws : List Word) (i whole : ℕ) → i ≡ length ws → whole ≡ i + place operator depth (drop i ws) → length ws ≡ whole
found_none operator depth ws i whole all so =
    let none : drop i ws ≡ [] = drop_all i ws (omega arith) in
    let no_more : place operator depth (drop i ws) ≡ 0 = ap (place operator depth) none ∙ place_none operator depth in
    omega arith

pub depth_after_le : (w : Word) (depth next i : ℕ) → next ≡ depth_after w depth → depth ≤ i → next ≤ i + 1
depth_after_le word.Open depth next i is le = omega arith
depth_after_le word.Close depth next i is le = omega arith
depth_after_le w depth next i is le = omega arith

pub first_cut : (operator : Operator) (ws : List Word) (at : ℕ) → at ≡ place operator 0 ws → at < length ws
    → cut operator 0 ws ≡ take at ws ∷ cut operator 0 (take (length ws - (at + 1)) (drop (at + 1) ws))
first_cut operator ws at is lt =
    let next : at + 1 ≡ suc (place operator 0 ws) = omega arith in
    rw (take_rest ws (at + 1), next, is) (cut_here operator 0 ws (rw (sym is) lt))
