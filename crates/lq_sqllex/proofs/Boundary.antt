-- A delimiter begins and ends between characters of a text.
use Rattle.std.proofs.Common.{◌≡◌, ◌≤◌, ◌<◌, ℕ, ◌+◌, true, List, [], ◌∷◌, ◌++◌, length, take, drop, get_or, ◌∙◌, ap, sym, subst, refl, arith, length-append}
use Rattle.std.specs.Str.{IsUtf8, IsCharBoundary}
use Rattle.std.proofs.lemmas.List.{get_or-drop, take_at}
use Rattle.std.proofs.lemmas.Str.{IsCharBoundary-start, IsCharBoundary-from_take, IsCharBoundary-from_rest, IsUtf8-drop}
use Rattle.lq_base.specs.Sql.{begins}
use Rattle.lq_sqllex.proofs.PieceSteps.{begins_with}

front_byte : (delimiter rest : List ℕ) → 0 < length delimiter → get_or (delimiter ++ rest) 0 0 ≡ get_or delimiter 0 0
front_byte [] rest some = absurd (omega arith)
front_byte (b ∷ more) rest some = refl

first_byte : (text rest delimiter : List ℕ) (place : ℕ) → drop place text ≡ delimiter ++ rest → 0 < length delimiter → get_or text place 0 ≡ get_or delimiter 0 0
first_byte text rest delimiter place here some =
    let at : place ≡ place + 0 = omega arith in
    ap (λ n. get_or text n 0) at ∙ sym (get_or-drop place text 0 0) ∙ ap (λ z. get_or z 0 0) here ∙ front_byte delimiter rest some

pub boundary_before : (text delimiter : List ℕ) (place : ℕ) → IsUtf8 delimiter → begins delimiter (drop place text) ≡ true → 0 < length delimiter → place ≤ length text
    → IsCharBoundary text place
boundary_before text delimiter place utf8 there some within =
    let same = first_byte text _ delimiter place (begins_with delimiter (drop place text) there) some in
    let front = IsCharBoundary-start delimiter utf8 in
    (within, λ _ high. rw same (front.1 some (rw (sym same) high)))

pub boundary_after : (text delimiter : List ℕ) (place : ℕ) → IsUtf8 text → IsUtf8 delimiter → begins delimiter (drop place text) ≡ true → 0 < length delimiter → place ≤ length text
    → IsCharBoundary text (place + length delimiter)
boundary_after text delimiter place utf8 small there some within =
    let rest = drop place text in
    let whole = begins_with delimiter rest there in
    let inside : IsUtf8 rest = IsUtf8-drop text place utf8 (boundary_before text delimiter place small there some within) in
    let front : take (length delimiter) rest ≡ delimiter = ap (take (length delimiter)) whole ∙ take_at delimiter (drop (length delimiter) rest) _ refl in
    IsCharBoundary-from_rest text place (length delimiter) within
    (IsCharBoundary-from_take rest (length delimiter) inside (omega (arith, ap length whole, length-append delimiter (drop (length delimiter) rest)))
    (subst IsUtf8 (sym front) small))
