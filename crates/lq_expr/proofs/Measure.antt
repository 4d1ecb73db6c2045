-- What falls while an expression is read.
use Rattle.std.proofs.Common.{ℕ, suc, List, length, Option, Some, None}
use Rattle.lq_operators.specs.declared.operator.Operator.{Operator}
use Rattle.lq_operators.specs.declared.operator.Operator.TheVariants.{Comma, Or, And}
use Rattle.lq_operators.specs.declared.word.Word.{Word}

abbrev pub looseness : Operator → ℕ
looseness And = 0
looseness Or = 2
looseness Comma = 4

-- more than the words that are left, if any are
abbrev pub words_left : Option (List Word) → ℕ
words_left None = 0
words_left (Some ws) = suc (length ws)
