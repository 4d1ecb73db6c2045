-- The first piece of a text, and the others.
use Rattle.std.proofs.Common.{◌≡◌, ◌≤◌, ◌<◌, ℕ, zero, suc, ◌+◌, ◌-◌, Bool, true, false, if◌then◌else◌, List, [], ◌∷◌, ◌++◌, length, take, drop, Option, Some, ◌∙◌, ap, sym, refl, arith, inl, inr, length-append}
use Rattle.std.specs.Prelude.{option_map}
use Rattle.std.proofs.lemmas.Bool.{cases_lt}
use Rattle.std.proofs.lemmas.List.{length-take-le}
use Rattle.std.proofs.lemmas.Option.{option_and_then_some}
use Rattle.lq_base.specs.declared.dialect.Dialect.{Dialect}
use Rattle.lq_sqllex.specs.Laws.{PiecesGoOn}
use Rattle.lq_sqllex.specs.Pieces.{unit_at, onto, between, cut}
use Rattle.lq_base.specs.Sql.{units}
use Rattle.lq_sqllex.proofs.UnitSteps.{units_begun}
use Rattle.lq_sqllex.proofs.WholeText.{map_some, IsUnit, unit_is}

abbrev pub Units : Type 0
Units = List (Bool × List ℕ)

abbrev GoesOn : Dialect → List ℕ → List ℕ → ℕ → List (List ℕ) → Type 0
GoesOn d delimiter text place pieces = option_map between (units (unit_at d delimiter) 0 (drop place text)) ≡ Some pieces

past_end : {A : Type 0} (front : List ℕ → Option (A × ℕ)) (begun : ℕ) (text : List ℕ) → length text ≤ begun → units front begun text ≡ Some []
past_end front begun [] within = refl
past_end front zero (b ∷ rest) within = absurd (omega arith)
past_end front (suc begun) (b ∷ rest) within = past_end front begun rest (omega arith)

-- pieces before the first of which some bytes stand
taken_off : {P : Type 0} (bytes : List ℕ) (ps : List (List ℕ)) (piece next : List ℕ) (more : List (List ℕ)) → onto bytes ps ≡ piece ∷ next ∷ more
    → ((first : List ℕ) → ps ≡ first ∷ next ∷ more → piece ≡ bytes ++ first → P) → P
taken_off bytes [] piece next more e go = absurd (cc)
taken_off bytes (first ∷ ps) piece next more e go = go first (let left : ps ≡ next ∷ more = cc in ap (λ z. first ∷ z) left) (cc)

-- the units after the first one
pub record IsFront (d : Dialect) (delimiter : List ℕ) (b : ℕ) (rest : List ℕ) (found : Units) (unit : Bool × ℕ) (more : Units) : Type 0 where
  pub is : IsUnit d delimiter (b ∷ rest) unit
  pub here : unit_at d delimiter (b ∷ rest) ≡ Some unit
  pub left : units (unit_at d delimiter) (unit.1 - 1) rest ≡ Some more
  pub same : (unit.0, take unit.1 (b ∷ rest)) ∷ more ≡ found

pub front_of : {P : Type 0} (d : Dialect) (delimiter : List ℕ) (b : ℕ) (rest : List ℕ) (found : Units) → 0 < length delimiter → units (unit_at d delimiter) 0 (b ∷ rest) ≡ Some found
    → ((unit : Bool × ℕ) (more : Units) → IsFront d delimiter b rest found unit more → P) → P
front_of d delimiter b rest found some e go =
    option_and_then_some _ (unit_at d delimiter (b ∷ rest)) found e (λ unit here e2.
    map_some _ (units (unit_at d delimiter) (unit.1 - 1) rest) found e2 (λ more left same.
    go unit more (record { is = unit_is d delimiter (b ∷ rest) unit some here; here = here; left = left; same = same })))

-- after a delimiter
on_past : (d : Dialect) (delimiter : List ℕ) → 0 < length delimiter → (b : ℕ) (rest : List ℕ) (unit : Bool × ℕ) (left : Units) (piece next : List ℕ) (more : List (List ℕ))
    → (unit.1 ≡ length delimiter) × (length delimiter ≤ length (b ∷ rest)) → units (unit_at d delimiter) (unit.1 - 1) rest ≡ Some left
    → [] ∷ between left ≡ piece ∷ next ∷ more → GoesOn d delimiter (b ∷ rest) (zero + (length piece + length delimiter)) (next ∷ more)
on_past d delimiter some b rest unit left piece next more told others is =
    let none : piece ≡ [] = cc in
    let kept : between left ≡ next ∷ more = cc in
    let place : zero + (length piece + length delimiter) ≡ suc (unit.1 - 1) = omega (arith, ap length none) in
    ap (λ n. option_map between (units (unit_at d delimiter) 0 (drop n (b ∷ rest)))) place
    ∙ ap (option_map between) (sym (units_begun (unit_at d delimiter) (unit.1 - 1) rest (omega arith)) ∙ others) ∙ ap (λ ps. Some ps) kept

pub nothing_left : {A : Type 0} (front : List ℕ → Option (A × ℕ)) (begun : ℕ) (text : List ℕ) (left : List (A × List ℕ)) → length text ≤ begun → units front begun text ≡ Some left → left ≡ []
nothing_left front begun text left within e = let none : Some [] ≡ Some left = sym (past_end front begun text within) ∙ e in cc

go_on : (d : Dialect) (delimiter : List ℕ) → 0 < length delimiter → (begun : ℕ) (text : List ℕ) (found : Units) (piece next : List ℕ) (more : List (List ℕ))
    → units (unit_at d delimiter) begun text ≡ Some found → between found ≡ piece ∷ next ∷ more → GoesOn d delimiter text (begun + (length piece + length delimiter)) (next ∷ more)
go_on d delimiter some begun [] found piece next more e cuts = let none : found ≡ [] = cc in let one : [] ∷ [] ≡ piece ∷ next ∷ more = ap between (sym none) ∙ cuts in absurd (cc)
go_on d delimiter some (suc begun) (b ∷ rest) found piece next more e cuts =
    let place : suc begun + (length piece + length delimiter) ≡ suc (begun + (length piece + length delimiter)) = omega arith in
    ap (λ n. option_map between (units (unit_at d delimiter) 0 (drop n (b ∷ rest)))) place ∙ go_on d delimiter some begun rest found piece next more e cuts
go_on d delimiter some zero (b ∷ rest) found piece next more e cuts =
    front_of d delimiter b rest found some e (λ unit left front.
    elim unit.0 as (λ flag. unit.0 ≡ flag → (if flag then [] ∷ between left else onto (take unit.1 (b ∷ rest)) (between left)) ≡ piece ∷ next ∷ more
    → GoesOn d delimiter (b ∷ rest) (zero + (length piece + length delimiter)) (next ∷ more)) [
      | true ↦ λ told is. on_past d delimiter some b rest unit left piece next more (front.is.told told) front.left is
      | false ↦ λ other is. taken_off (take unit.1 (b ∷ rest)) (between left) piece next more is (λ first ps whole.
          elim (cases_lt (length rest) unit.1) [
            | inl beyond ↦ (let none : left ≡ [] = nothing_left (unit_at d delimiter) (unit.1 - 1) rest left (omega arith) front.left in
                let one : [] ∷ [] ≡ first ∷ next ∷ more = ap between (sym none) ∙ ps in absurd (cc))
            | inr within ↦ (let place : zero + (length piece + length delimiter) ≡ suc ((unit.1 - 1) + (length first + length delimiter)) =
                omega (arith, front.is.some, ap length whole, length-append (take unit.1 (b ∷ rest)) first, length-take-le unit.1 (b ∷ rest) (omega arith)) in
                ap (λ n. option_map between (units (unit_at d delimiter) 0 (drop n (b ∷ rest)))) place
                ∙ go_on d delimiter some (unit.1 - 1) rest left first next more front.left ps)
          ])
    ] refl (ap between front.same ∙ cuts))

pub pieces_go_on : PiecesGoOn
unfolding cut
pieces_go_on d text delimiter piece next more some e =
    map_some between (units (unit_at d delimiter) 0 text) (piece ∷ next ∷ more) e (λ found is same.
    let place : 0 + (length piece + length delimiter) ≡ length piece + length delimiter = omega arith in
    ap (λ n. option_map between (units (unit_at d delimiter) 0 (drop n text))) (sym place) ∙ go_on d delimiter some 0 text found piece next more is same)
