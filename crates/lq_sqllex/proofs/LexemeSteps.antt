-- The lexemes of a text by its first one.
use Rattle.std.proofs.Common.{◌≡◌, ◌<◌, ◌≤◌, List, ℕ, ◌∷◌, ◌++◌, length, take, drop, Some, None, ◌∙◌, ap, refl, arith, length-append}
use Rattle.std.specs.Prelude.{option_map}
use Rattle.std.proofs.lemmas.List.{take_at, drop_at}
use Rattle.lq_base.specs.declared.dialect.Dialect.{Dialect}
use Rattle.lq_base.specs.Sql.{sort_at, length_at, lexeme_at, lexemes, units}
use Rattle.lq_sqllex.proofs.UnitSteps.{units_front, units_open}

pub lexemes_open : (d : Dialect) (text : List ℕ) → 0 < length text → length_at d text ≡ None → lexemes d text ≡ None
unfolding lexemes
lexemes_open d text some unclosed = units_open (lexeme_at d) text (ap (option_map (λ n. (sort_at d text, n))) unclosed) some

pub lexemes_on : (d : Dialect) (text bytes rest : List ℕ) → text ≡ bytes ++ rest → length_at d text ≡ Some (length bytes) → 0 < length bytes
    → lexemes d text ≡ option_map (λ more. (sort_at d text, bytes) ∷ more) (lexemes d rest)
unfolding lexemes
lexemes_on d text bytes rest whole closed some =
    let within : length bytes ≤ length text = omega (arith, ap length whole, length-append bytes rest) in
    let front : take (length bytes) text ≡ bytes = ap (take (length bytes)) whole ∙ take_at bytes rest _ refl in
    let left : drop (length bytes) text ≡ rest = ap (drop (length bytes)) whole ∙ drop_at bytes rest _ refl in
    units_front (lexeme_at d) text (sort_at d text) (length bytes) (ap (option_map (λ n. (sort_at d text, n))) closed) some within
    ∙ ap (λ z. option_map (λ more. (sort_at d text, z) ∷ more) (units (lexeme_at d) 0 (drop (length bytes) text))) front
    ∙ ap (λ z. option_map (λ more. (sort_at d text, bytes) ∷ more) (units (lexeme_at d) 0 z)) left
