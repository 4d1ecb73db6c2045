-- Whether a text is blanks and comments alone, by its first lexeme.
use Rattle.std.proofs.Common.{◌≡◌, ℕ, Bool, true, false, List, [], ◌∷◌, length, Option, Some, None, ◌∙◌, ap, refl, arith}
use Rattle.std.specs.Prelude.{option_map}
use Rattle.std.specs.List.{list_all}
use Rattle.std.specs.Option.{option_map_or}
use Rattle.lq_base.specs.declared.dialect.Dialect.{Dialect}
use Rattle.lq_base.specs.declared.lexeme.LexemeSort.{LexemeSort}
use Rattle.lq_base.specs.Sql.{lexemes, is_trivia_sort, is_trivia}

abbrev all_trivia : Option (List (LexemeSort × List ℕ)) → Bool
all_trivia found = option_map_or (list_all (λ lexeme. is_trivia_sort lexeme.0)) found false

none_trivia : (sort : LexemeSort) (bytes : List ℕ) (found : Option (List (LexemeSort × List ℕ))) → is_trivia_sort sort ≡ false
    → all_trivia (option_map (λ more. (sort, bytes) ∷ more) found) ≡ false
none_trivia sort bytes None other = refl
none_trivia sort bytes (Some more) other = rw other refl

with_trivia : (sort : LexemeSort) (bytes : List ℕ) (found : Option (List (LexemeSort × List ℕ))) → is_trivia_sort sort ≡ true
    → all_trivia (option_map (λ more. (sort, bytes) ∷ more) found) ≡ all_trivia found
with_trivia sort bytes None one = refl
with_trivia sort bytes (Some more) one = rw one refl

pub trivia_open : (d : Dialect) (text : List ℕ) → lexemes d text ≡ None → is_trivia d text ≡ false
unfolding is_trivia
trivia_open d text unclosed = ap all_trivia unclosed

pub trivia_on : (d : Dialect) (text : List ℕ) (sort : LexemeSort) (bytes rest : List ℕ) → lexemes d text ≡ option_map (λ more. (sort, bytes) ∷ more) (lexemes d rest)
    → is_trivia_sort sort ≡ true → is_trivia d text ≡ is_trivia d rest
unfolding is_trivia
trivia_on d text sort bytes rest found one = ap all_trivia found ∙ with_trivia sort bytes (lexemes d rest) one

pub trivia_other : (d : Dialect) (text : List ℕ) (sort : LexemeSort) (bytes rest : List ℕ) → lexemes d text ≡ option_map (λ more. (sort, bytes) ∷ more) (lexemes d rest)
    → is_trivia_sort sort ≡ false → is_trivia d text ≡ false
unfolding is_trivia
trivia_other d text sort bytes rest found other = ap all_trivia found ∙ none_trivia sort bytes (lexemes d rest) other

pub trivia_empty : (d : Dialect) (text : List ℕ) → length text ≡ 0 → is_trivia d text ≡ true
unfolding is_trivia lexemes
trivia_empty d [] none = refl
trivia_empty d (b ∷ rest) none = absurd (omega arith)
