-- The grammar of tests: NOT binds tighter than AND, and AND tighter than OR, both to the left.
use Rattle.std.specs.List.{fold}
use Rattle.std.specs.Prelude.{Bool, None, Option, Some, [], false, if◌then◌else◌, nat_le, suc, true, zero, ℕ, ◌∷◌}
use Rattle.lq_model.specs.Comparison.{levels}
use Rattle.lq_model.specs.SqlParser.{Parser, and_then, eat, expect, led_by, many, peek, pure, refuse, same_kind, skip, ◌>>=◌, ◌>>◌}
use Rattle.lq_model.specs.SqlPart.{literal, name}
use Rattle.lq_model.specs.declared.test.Op.{Op}
use Rattle.lq_model.specs.declared.test.Op.TheVariants as op
use Rattle.lq_model.specs.declared.test.Operand.{Operand}
use Rattle.lq_model.specs.declared.test.Operand.TheVariants as side
use Rattle.lq_model.specs.declared.test.Test.{Test}
use Rattle.lq_model.specs.declared.test.Test.TheVariants as test
use Rattle.lq_model.specs.declared.word.WordKind.{WordKind}
use Rattle.lq_model.specs.declared.word.WordKind.TheVariants as word

-- NULL, TRUE, FALSE, a string or a number; all else is a column
abbrev pub begins_literal : WordKind → Bool
begins_literal word.Null = true
begins_literal word.True = true
begins_literal word.False = true
begins_literal word.Text = true
begins_literal word.Number = true
begins_literal _ = false

unfoldable pub operand : Parser Operand
operand = do
  found ← peek
  if begins_literal found then (do it ← literal; pure (side.Literal it)) else (do column ← name; pure (side.Column column))

abbrev pub operator_by : WordKind → Parser Op
operator_by word.Equal = skip >> pure op.Eq
operator_by word.Unequal = skip >> pure op.Ne
operator_by word.Less = skip >> pure op.Lt
operator_by word.AtMost = skip >> pure op.Le
operator_by word.More = skip >> pure op.Gt
operator_by word.AtLeast = skip >> pure op.Ge
operator_by _ = refuse

unfoldable pub operator : Parser Op
operator = peek >>= operator_by

-- after IS
unfoldable pub nullness : Operand → Parser Test
nullness x = do
  negated ← eat word.Not
  expect word.Null
  pure (if negated then test.NotNull x else test.IsNull x)

unfoldable pub comparison : Parser Test
comparison = do
  x ← operand
  is ← eat word.Is
  if is then nullness x else (do o ← operator; y ← operand; pure (test.Compare o x y))

-- how many parentheses, and how many AND, OR and NOT, may stand in one another
abbrev pub most : ℕ
most = 64

module _ (primary : Parser Test) where
  -- a test after any number of NOT
  unfoldable pub term : Parser Test
  term [] = primary []
  term (w ∷ ws) = if same_kind w.kind word.Not then and_then (term ws) (λ t. pure (test.Not t)) else primary (w ∷ ws)

  -- AND and OR join to the left
  unfoldable pub product : Parser Test
  product = do
    first ← term
    more ← many (led_by word.And term)
    pure (fold test.And first more)

  unfoldable pub sum : Parser Test
  sum = do
    first ← product
    more ← many (led_by word.Or product)
    pure (fold test.Or first more)

-- a comparison, or a test in parentheses, with at most so many parentheses in one another
unfoldable pub primary : ℕ → Parser Test
primary zero = comparison
primary (suc parentheses) = do
  opened ← eat word.Open
  if opened then (do t ← sum (primary parentheses); expect word.Close; pure t) else comparison

-- a whole test: each AND, OR and NOT is a level
unfoldable pub any_test : Parser Test
any_test = do
  t ← sum (primary most)
  if nat_le (levels t) most then pure t else refuse

unfoldable pub where_test : Parser (Option Test)
where_test = do
  found ← eat word.Where
  if found then (do t ← any_test; pure (Some t)) else pure None
