-- The words that join the parts of an expression.
use Rattle.std.specs.Prelude.{Bool, false, true}
use Rattle.lq_operators.specs.declared.operator.Operator.{Operator}
use Rattle.lq_operators.specs.declared.operator.Operator.TheVariants.{And, Comma, Or}
use Rattle.lq_operators.specs.declared.word.Word.{Word}
use Rattle.lq_operators.specs.declared.word.Word.TheVariants as word

abbrev pub is_operator : Operator → Word → Bool
is_operator Comma word.Comma = true
is_operator Or word.Or = true
is_operator And word.And = true
is_operator _ _ = false
