-- How the units of a text follow from its front.
use Rattle.std.proofs.Common.{◌≡◌, ◌≤◌, ◌<◌, ℕ, zero, suc, ◌-◌, List, [], ◌∷◌, length, take, drop, Option, Some, None, ◌∙◌, ap, sym, refl, arith}
use Rattle.std.specs.Prelude.{option_map}
use Rattle.lq_base.specs.Sql.{units}

pub units_begun : {A : Type 0} (front : List ℕ → Option (A × ℕ)) (begun : ℕ) (text : List ℕ) → begun ≤ length text
    → units front begun text ≡ units front 0 (drop begun text)
units_begun front zero text within = refl
units_begun front (suc begun) [] within = absurd (omega arith)
units_begun front (suc begun) (b ∷ rest) within = units_begun front begun rest (omega arith)

pub units_front : {A : Type 0} (front : List ℕ → Option (A × ℕ)) (text : List ℕ) (a : A) (count : ℕ) → front text ≡ Some (a, count)
    → 0 < count → count ≤ length text
    → units front 0 text ≡ option_map (λ us. (a, take count text) ∷ us) (units front 0 (drop count text))
units_front front [] a count here some within = absurd (omega arith)
units_front front (b ∷ rest) a count here some within =
    let all : count ≡ suc (count - 1) = omega arith in
    let left : drop count (b ∷ rest) ≡ drop (count - 1) rest = ap (λ n. drop n (b ∷ rest)) all in
    rw here (ap (option_map (λ us. (a, take count (b ∷ rest)) ∷ us)) (units_begun front (count - 1) rest (omega arith) ∙ ap (units front 0) (sym left)))

pub units_open : {A : Type 0} (front : List ℕ → Option (A × ℕ)) (text : List ℕ) → front text ≡ None → 0 < length text → units front 0 text ≡ None
units_open front [] here some = absurd (omega arith)
units_open front (b ∷ rest) here some = rw here refl
