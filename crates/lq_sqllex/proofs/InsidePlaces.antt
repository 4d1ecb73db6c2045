-- A delimiter in a piece begins in a string, quoted name or comment.
use Rattle.std.proofs.Common.{◌≡◌, ◌<◌, ℕ, zero, suc, ◌+◌, ◌-◌, ◌&&◌, not, Bool, true, false, if◌then◌else◌, List, [], ◌∷◌, ◌++◌, length, take, drop, Some, ◌∙◌, ap, sym, subst, refl, arith, inl, inr, length-append}
use Rattle.std.proofs.lemmas.Bool.{cases_lt}
use Rattle.std.proofs.lemmas.List.{length-take, length-take-le}
use Rattle.lq_base.specs.declared.dialect.Dialect.{Dialect}
use Rattle.lq_base.specs.Sql.{begins, sort_at, length_at, units}
use Rattle.lq_sqllex.specs.Laws.{IsInside, DelimitersAreInside}
use Rattle.lq_marks.specs.Enclosed.{is_enclosed}
use Rattle.lq_sqllex.specs.Pieces.{is_delimited, together, unit_at, onto, between, cut}
use Rattle.lq_sqllex.proofs.PieceOrder.{Units, front_of, nothing_left}
use Rattle.lq_sqllex.proofs.WholeText.{map_some}

inside_next : (d : Dialect) (b : ℕ) (rest : List ℕ) (place : ℕ) → IsInside d rest place → IsInside d (b ∷ rest) (suc place)
inside_next d b rest place is = record {
  begin = suc is.begin;
  count = is.count;
  enclosed = is.enclosed;
  closed = is.closed;
  from_begin = omega (arith, is.from_begin);
  before_end = omega (arith, is.before_end);
}

-- in the first unit, which is no delimiter
inside_front : (d : Dialect) (delimiter text : List ℕ) (count place : ℕ) → together d text ≡ Some count → place < count → is_delimited d delimiter text ≡ false
    → begins delimiter (drop place text) ≡ true → IsInside d text place
inside_front d delimiter text count place whole within other there =
    elim (is_enclosed (sort_at d text)) as (λ enclosed. is_enclosed (sort_at d text) ≡ enclosed → (if enclosed then length_at d text else Some 1) ≡ Some count
    → (not enclosed && begins delimiter text) ≡ false → IsInside d text place) [
      | true ↦ λ enclosed closed _. record { begin = 0; count = count; enclosed = enclosed; closed = closed; from_begin = omega arith; before_end = omega arith }
      | false ↦ λ single one none. (let same : 1 ≡ count = cc in
          let first : place ≡ 0 = omega arith in
          let here : begins delimiter text ≡ true = subst (λ n. begins delimiter (drop n text) ≡ true) first there in
          absurd (cc))
    ] refl whole other

-- a first piece before which some bytes stand
first_taken_off : {P : Type 0} (bytes : List ℕ) (ps : List (List ℕ)) (piece : List ℕ) (more : List (List ℕ)) → onto bytes ps ≡ piece ∷ more
    → ((first : List ℕ) (others : List (List ℕ)) → ps ≡ first ∷ others → length piece ≡ length bytes + length first → P) → (ps ≡ [] → P) → P
first_taken_off bytes [] piece more e go none = none refl
first_taken_off bytes (first ∷ ps) piece more e go none =
    go first ps refl (let whole : bytes ++ first ≡ piece = cc in omega (arith, ap length whole, length-append bytes first))

some_of : (is_delimiter : Bool) (bytes : List ℕ) (ps : List (List ℕ)) → (if is_delimiter then [] ∷ ps else onto bytes ps) ≡ [] → ⊥
some_of true bytes ps e = cc
some_of false bytes [] e = cc
some_of false bytes (p ∷ ps) e = cc

some_piece : (us : Units) → between us ≡ [] → ⊥
some_piece [] e = cc
some_piece (unit ∷ more) e = some_of unit.0 unit.1 (between more) e

inside : (d : Dialect) (delimiter : List ℕ) → 0 < length delimiter → (begun : ℕ) (text : List ℕ) (found : Units) (piece : List ℕ) (more : List (List ℕ)) (place : ℕ)
    → units (unit_at d delimiter) begun text ≡ Some found → between found ≡ piece ∷ more → place < length piece → begins delimiter (drop (begun + place) text) ≡ true
    → IsInside d text (begun + place)
inside d delimiter some begun [] found piece more place e cuts within there =
    let none : found ≡ [] = cc in
    let one : [] ∷ [] ≡ piece ∷ more = ap between (sym none) ∙ cuts in
    let empty : piece ≡ [] = cc in
    absurd (omega (arith, ap length empty))
inside d delimiter some (suc begun) (b ∷ rest) found piece more place e cuts within there =
    let on : suc begun + place ≡ suc (begun + place) = omega arith in
    subst (IsInside d (b ∷ rest)) (sym on)
    (inside_next d b rest (begun + place) (inside d delimiter some begun rest found piece more place e cuts within (subst (λ n. begins delimiter (drop n (b ∷ rest)) ≡ true) on there)))
inside d delimiter some zero (b ∷ rest) found piece more place e cuts within there =
    front_of d delimiter b rest found some e (λ unit left front.
    elim unit.0 as (λ flag. unit.0 ≡ flag → (if flag then [] ∷ between left else onto (take unit.1 (b ∷ rest)) (between left)) ≡ piece ∷ more → IsInside d (b ∷ rest) (zero + place)) [
      | true ↦ λ told is. (let empty : piece ≡ [] = cc in absurd (omega (arith, ap length empty)))
      | false ↦ λ other is.
          let here : zero + place ≡ place = omega arith in
          let begins_here : begins delimiter (drop place (b ∷ rest)) ≡ true = subst (λ n. begins delimiter (drop n (b ∷ rest)) ≡ true) here there in
          elim (cases_lt place unit.1) [
            | inl front_place ↦ subst (IsInside d (b ∷ rest)) (sym here)
                (inside_front d delimiter (b ∷ rest) unit.1 place (front.is.other other).1 front_place (front.is.other other).0 begins_here)
            | inr behind ↦ first_taken_off (take unit.1 (b ∷ rest)) (between left) piece more is (λ first others ps long.
                elim (cases_lt (length rest) unit.1) [
                  | inl beyond ↦ (let none : left ≡ [] = nothing_left (unit_at d delimiter) (unit.1 - 1) rest left (omega arith) front.left in
                      let one : [] ∷ [] ≡ first ∷ others = ap between (sym none) ∙ ps in
                      let empty : first ≡ [] = cc in
                      absurd (omega (arith, long, ap length empty, length-take unit.1 (b ∷ rest))))
                  | inr enough ↦ (let bytes : length (take unit.1 (b ∷ rest)) ≡ unit.1 = length-take-le unit.1 (b ∷ rest) (omega arith) in
                      let on : suc ((unit.1 - 1) + (place - unit.1)) ≡ place = omega (arith, front.is.some) in
                      subst (IsInside d (b ∷ rest)) (on ∙ sym here)
                      (inside_next d b rest ((unit.1 - 1) + (place - unit.1))
                      (inside d delimiter some (unit.1 - 1) rest left first others (place - unit.1) front.left ps (omega arith)
                      (subst (λ n. begins delimiter (drop n (b ∷ rest)) ≡ true) (sym on) begins_here))))
                ]) (λ none. absurd (some_piece left none))
          ]
    ] refl (ap between front.same ∙ cuts))

pub delimiters_inside : DelimitersAreInside
unfolding cut
delimiters_inside d text delimiter piece more place some e within there =
    map_some between (units (unit_at d delimiter) 0 text) (piece ∷ more) e (λ found is same.
    let here : 0 + place ≡ place = omega arith in
    subst (IsInside d text) here (inside d delimiter some 0 text found piece more place is same within (subst (λ n. begins delimiter (drop n text) ≡ true) (sym here) there)))
