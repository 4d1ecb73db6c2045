-- The words of a text, lexeme by lexeme.
use Rattle.std.proofs.Common.{◌≡◌, ℕ, List, [], ◌∷◌, ◌++◌, length, Option, Some, None, option_map, ◌∙◌, ap, sym, refl, append_assoc, arith}
use Rattle.std.specs.List.{flat_map}
use Rattle.std.proofs.lemmas.List.{append-nil}
use Rattle.lq_base.specs.Sql.{lexemes}
use Rattle.lq_base.specs.declared.dialect.Dialect.{Dialect}
use Rattle.lq_base.specs.declared.lexeme.LexemeSort.{LexemeSort}
use Rattle.lq_model.specs.SqlWord.{words, words_of}
use Rattle.lq_model.specs.declared.word.Word.{Word}

abbrev all_words : Dialect → Option (List (LexemeSort × List ℕ)) → Option (List Word)
all_words d found = option_map (flat_map (λ lexeme. words_of d lexeme.0 lexeme.1)) found

with_first : (d : Dialect) (sort : LexemeSort) (bytes : List ℕ) (found : Option (List (LexemeSort × List ℕ)))
    → all_words d (option_map (λ more. (sort, bytes) ∷ more) found) ≡ option_map (λ more. words_of d sort bytes ++ more) (all_words d found)
with_first d sort bytes None = refl
with_first d sort bytes (Some more) = refl

pub words_open : (d : Dialect) (text : List ℕ) → lexemes d text ≡ None → words d text ≡ None
unfolding words
words_open d text unclosed = ap (all_words d) unclosed

pub words_on : (d : Dialect) (text : List ℕ) (sort : LexemeSort) (bytes rest : List ℕ) → lexemes d text ≡ option_map (λ more. (sort, bytes) ∷ more) (lexemes d rest)
    → words d text ≡ option_map (λ more. words_of d sort bytes ++ more) (words d rest)
unfolding words
words_on d text sort bytes rest found = ap (all_words d) found ∙ with_first d sort bytes (lexemes d rest)

pub words_empty : (d : Dialect) (text : List ℕ) → length text ≡ 0 → words d text ≡ Some []
unfolding words lexemes
words_empty d [] none = refl
words_empty d (b ∷ rest) none = absurd (omega arith)

onto : (found these : List Word) (more : Option (List Word))
    → option_map (λ ws. found ++ ws) (option_map (λ ws. these ++ ws) more) ≡ option_map (λ ws. (found ++ these) ++ ws) more
onto found these None = refl
onto found these (Some ws) = ap (λ z. Some z) (sym (append_assoc found these ws))

-- a loop that has found some words, before a text of which these are the words
pub step : (d : Dialect) (whole : Option (List Word)) (found new : List Word) (text : List ℕ) (sort : LexemeSort) (bytes rest : List ℕ)
    → option_map (λ ws. found ++ ws) (words d text) ≡ whole → lexemes d text ≡ option_map (λ more. (sort, bytes) ∷ more) (lexemes d rest)
    → new ≡ found ++ words_of d sort bytes → option_map (λ ws. new ++ ws) (words d rest) ≡ whole
step d whole found new text sort bytes rest so_far first new_is =
    ap (λ ws. option_map (λ more. ws ++ more) (words d rest)) new_is
    ∙ sym (onto found (words_of d sort bytes) (words d rest))
    ∙ ap (λ o. option_map (λ ws. found ++ ws) o) (sym (words_on d text sort bytes rest first))
    ∙ so_far

pub stuck : (d : Dialect) (whole : Option (List Word)) (found : List Word) (text : List ℕ)
    → option_map (λ ws. found ++ ws) (words d text) ≡ whole → lexemes d text ≡ None → whole ≡ None
stuck d whole found text so_far unclosed = sym so_far ∙ ap (λ o. option_map (λ ws. found ++ ws) o) (words_open d text unclosed)

pub done : (d : Dialect) (whole : Option (List Word)) (found : List Word) (text : List ℕ)
    → option_map (λ ws. found ++ ws) (words d text) ≡ whole → length text ≡ 0 → whole ≡ Some found
done d whole found text so_far none =
    sym so_far ∙ ap (λ o. option_map (λ ws. found ++ ws) o) (words_empty d text none) ∙ ap (λ z. Some z) (append-nil found)

pub unbegun : (found : List Word) (more : Option (List Word)) → found ≡ [] → option_map (λ ws. found ++ ws) more ≡ more
unbegun found None none = refl
unbegun found (Some ws) none = ap (λ z. Some (z ++ ws)) none
