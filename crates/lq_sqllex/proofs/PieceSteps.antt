-- What the pieces of a text are, after some are found and one has begun.
use Rattle.std.proofs.Common.{◌≡◌, ◌≤◌, ◌<◌, ℕ, ◌+◌, ◌-◌, ◌&&◌, Bool, true, false, if◌then◌else◌, List, [], ◌∷◌, ◌++◌, length, take, drop, Option, Some, None, ◌∙◌, ap, sym, refl, arith, length-append, length-drop, append_assoc}
use Rattle.std.specs.Prelude.{option_map, not}
use Rattle.std.proofs.Math.Seq.{take-add}
use Rattle.std.proofs.lemmas.List.{append-nil, drop-drop}
use Rattle.std.proofs.lemmas.List.Elements.{filter-append}
use Rattle.std.proofs.lemmas.Bool.Decides.{Decides-eqb}
use Rattle.std.proofs.lemmas.Slice.Eq.{starts_is}
use Rattle.lq_base.specs.declared.dialect.Dialect.{Dialect}
use Rattle.lq_base.specs.Sql.{begins, sort_at, is_trivia, units}
use Rattle.lq_marks.specs.Enclosed.{is_enclosed}
use Rattle.lq_sqllex.specs.Pieces.{is_delimited, together, unit_at, onto, between, cut, kept, pieces}
use Rattle.lq_sqllex.proofs.UnitSteps.{units_front, units_open}

abbrev Units : Type 0
Units = List (Bool × List ℕ)

-- the pieces found, then those of what is left, before the first of which these bytes have begun
abbrev pub going : Dialect → List ℕ → List (List ℕ) → List ℕ → List ℕ → Option (List (List ℕ))
going d delimiter found begun left = option_map (λ us. found ++ kept d (onto begun (between us))) (units (unit_at d delimiter) 0 left)

map_map : {A B C : Type 0} (f : B → C) (g : A → B) (o : Option A) → option_map f (option_map g o) ≡ option_map (λ x. f (g x)) o
map_map f g None = refl
map_map f g (Some x) = refl

map_alike : {A B : Type 0} (f g : A → B) (o : Option A) → ((x : A) → f x ≡ g x) → option_map f o ≡ option_map g o
map_alike f g None same = refl
map_alike f g (Some x) same = ap (λ y. Some y) (same x)

onto_onto : (begun bytes : List ℕ) (ps : List (List ℕ)) → onto begun (onto bytes ps) ≡ onto (begun ++ bytes) ps
onto_onto begun bytes [] = refl
onto_onto begun bytes (p ∷ ps) = ap (λ z. z ∷ ps) (sym (append_assoc begun bytes p))

onto_nothing : (is_delimiter : Bool) (bytes : List ℕ) (ps : List (List ℕ)) → onto [] (if is_delimiter then [] ∷ ps else onto bytes ps) ≡ (if is_delimiter then [] ∷ ps else onto bytes ps)
onto_nothing true bytes ps = refl
onto_nothing false bytes [] = refl
onto_nothing false bytes (p ∷ ps) = refl

onto_none : (us : Units) → onto [] (between us) ≡ between us
onto_none [] = refl
onto_none (unit ∷ more) = onto_nothing unit.0 unit.1 (between more)

-- a piece that has ended
past_one : (d : Dialect) (found : List (List ℕ)) (begun : List ℕ) (us : Units)
    → found ++ kept d ((begun ++ []) ∷ between us) ≡ (found ++ kept d (begun ∷ [])) ++ kept d (onto [] (between us))
past_one d found begun us =
    rw (append-nil begun, onto_none us)
    (ap (λ z. found ++ z) (filter-append (λ piece. not (is_trivia d piece)) (begun ∷ []) (between us)) ∙ sym (append_assoc found (kept d (begun ∷ [])) (kept d (between us))))

pub begins_with : (delimiter left : List ℕ) → begins delimiter left ≡ true → left ≡ delimiter ++ drop (length delimiter) left
begins_with delimiter left there = (starts_is Decides-eqb left delimiter (begins delimiter left) refl).0 there

both_second : (a b : Bool) → (a && b) ≡ true → b ≡ true
both_second true b both = both
both_second false b both = absurd (cc)

pub delimiter_begins : (d : Dialect) (delimiter text : List ℕ) → is_delimited d delimiter text ≡ true → begins delimiter text ≡ true
delimiter_begins d delimiter text there = both_second (not (is_enclosed (sort_at d text))) (begins delimiter text) there

pub going_begins : (d : Dialect) (text delimiter : List ℕ) → pieces d text delimiter ≡ going d delimiter [] [] text
unfolding pieces cut
going_begins d text delimiter =
    map_map (kept d) between (units (unit_at d delimiter) 0 text) ∙ map_alike _ _ (units (unit_at d delimiter) 0 text) (λ us. ap (kept d) (sym (onto_none us)))

pub going_ends : (d : Dialect) (delimiter : List ℕ) (found : List (List ℕ)) (begun : List ℕ) → going d delimiter found begun [] ≡ Some (found ++ kept d (begun ∷ []))
going_ends d delimiter found begun = ap (λ z. Some (found ++ kept d (z ∷ []))) (append-nil begun)

pub going_open : (d : Dialect) (delimiter : List ℕ) (found : List (List ℕ)) (begun left : List ℕ) → is_delimited d delimiter left ≡ false → together d left ≡ None → 0 < length left
    → going d delimiter found begun left ≡ None
going_open d delimiter found begun left other unclosed some =
    let here : unit_at d delimiter left ≡ None = rw (other, unclosed) refl in
    ap (option_map (λ us. found ++ kept d (onto begun (between us)))) (units_open (unit_at d delimiter) left here some)

pub going_on : (d : Dialect) (delimiter : List ℕ) (found : List (List ℕ)) (begun left : List ℕ) (count : ℕ) → is_delimited d delimiter left ≡ false → together d left ≡ Some count
    → 0 < count → count ≤ length left
    → going d delimiter found begun left ≡ going d delimiter found (begun ++ take count left) (drop count left)
going_on d delimiter found begun left count other closed some within =
    let here : unit_at d delimiter left ≡ Some (false, count) = rw (other, closed) refl in
    let left_units = units (unit_at d delimiter) 0 (drop count left) in
    ap (option_map (λ us. found ++ kept d (onto begun (between us)))) (units_front (unit_at d delimiter) left false count here some within)
    ∙ map_map (λ us. found ++ kept d (onto begun (between us))) (λ us. (false, take count left) ∷ us) left_units
    ∙ map_alike _ _ left_units (λ us. ap (λ ps. found ++ kept d ps) (onto_onto begun (take count left) (between us)))

pub going_past : (d : Dialect) (delimiter : List ℕ) (found : List (List ℕ)) (begun left : List ℕ) → is_delimited d delimiter left ≡ true → 0 < length delimiter
    → going d delimiter found begun left ≡ going d delimiter (found ++ kept d (begun ∷ [])) [] (drop (length delimiter) left)
going_past d delimiter found begun left there some =
    let here : unit_at d delimiter left ≡ Some (true, length delimiter) = rw there refl in
    let count = length delimiter in
    let left_units = units (unit_at d delimiter) 0 (drop count left) in
    ap (option_map (λ us. found ++ kept d (onto begun (between us))))
    (units_front (unit_at d delimiter) left true count here some (omega (arith, ap length (begins_with delimiter left (delimiter_begins d delimiter left there)), length-append delimiter (drop count left))))
    ∙ map_map (λ us. found ++ kept d (onto begun (between us))) (λ us. (true, take count left) ∷ us) left_units
    ∙ map_alike _ _ left_units (λ us. past_one d found begun us)

between_on : (text : List ℕ) (start place count : ℕ) → start ≤ place → take (place - start) (drop start text) ++ take count (drop place text) ≡ take (place + count - start) (drop start text)
between_on text start place count order =
    let here : place ≡ start + (place - start) = omega arith in
    let more : place + count - start ≡ (place - start) + count = omega arith in
    ap (λ n. take (place - start) (drop start text) ++ take count (drop n text)) here
    ∙ ap (λ z. take (place - start) (drop start text) ++ take count z) (sym (drop-drop (place - start) start text))
    ∙ sym (take-add (place - start) count (drop start text))
    ∙ ap (λ n. take n (drop start text)) (sym more)

-- the bytes from start to place have begun a piece, and so do some more
pub piece_on : (d : Dialect) (text delimiter : List ℕ) (found : List (List ℕ)) (start place count : ℕ) (whole : Option (List (List ℕ)))
    → whole ≡ going d delimiter found (take (place - start) (drop start text)) (drop place text) → start ≤ place → place + count ≤ length text → 0 < count
    → is_delimited d delimiter (drop place text) ≡ false → together d (drop place text) ≡ Some count
    → whole ≡ going d delimiter found (take (place + count - start) (drop start text)) (drop (place + count) text)
piece_on d text delimiter found start place count whole so order within some other closed =
    let inside : count ≤ length (drop place text) = omega (arith, length-drop place text) in
    so ∙ going_on d delimiter found (take (place - start) (drop start text)) (drop place text) count other closed some inside
    ∙ ap (λ z. going d delimiter found z (drop count (drop place text))) (between_on text start place count order)
    ∙ ap (going d delimiter found (take (place + count - start) (drop start text))) (drop-drop count place text)

-- they are a piece, and after the delimiter the next one begins
pub piece_past : (d : Dialect) (text delimiter : List ℕ) (found more : List (List ℕ)) (piece : List ℕ) (place : ℕ) (whole : Option (List (List ℕ)))
    → whole ≡ going d delimiter found piece (drop place text) → is_delimited d delimiter (drop place text) ≡ true → 0 < length delimiter → more ≡ found ++ kept d (piece ∷ [])
    → whole ≡ going d delimiter more (take (place + length delimiter - (place + length delimiter)) (drop (place + length delimiter) text)) (drop (place + length delimiter) text)
piece_past d text delimiter found more piece place whole so there some ended =
    let none : place + length delimiter - (place + length delimiter) ≡ 0 = omega arith in
    so ∙ going_past d delimiter found piece (drop place text) there some
    ∙ ap (λ z. going d delimiter z [] (drop (length delimiter) (drop place text))) (sym ended)
    ∙ ap (going d delimiter more []) (drop-drop (length delimiter) place text)
    ∙ ap (λ n. going d delimiter more (take n (drop (place + length delimiter) text)) (drop (place + length delimiter) text)) (sym none)
