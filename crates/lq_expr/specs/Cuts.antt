-- Where words are cut first, and what a factor begins with.
use Rattle.std.specs.Prelude.{Bool, List, None, Option, Some, [], false, if◌then◌else◌, suc, true, ℕ, ◌∷◌}
use Rattle.lq_expr.specs.Grammar.{cut, depth_after, inside, is_cut}
use Rattle.lq_operators.specs.declared.operator.Operator.{Operator}
use Rattle.lq_operators.specs.declared.word.Word.{Word}
use Rattle.lq_operators.specs.declared.word.Word.TheVariants as word

-- the place of the first such operator outside parentheses, or the number of words
unfoldable pub place : Operator → ℕ → List Word → ℕ
place operator depth [] = 0
place operator depth (w ∷ ws) = if is_cut operator depth w then 0 else suc (place operator (depth_after w depth) ws)

-- the parts of the words that are left, if any are
abbrev pub rest_of : Operator → Option (List Word) → List (List Word)
rest_of operator None = []
rest_of operator (Some ws) = cut operator 0 ws

-- the words behind a negation's first word
abbrev pub negated : List Word → Option (List Word)
negated (word.Not ∷ ws) = Some ws
negated _ = None

-- the words between a parenthesis that opens first and one that closes last
abbrev pub enclosed : List Word → Option (List Word)
enclosed (word.Open ∷ ws) = inside ws
enclosed _ = None

abbrev pub is_close : Word → Bool
is_close word.Close = true
is_close _ = false
