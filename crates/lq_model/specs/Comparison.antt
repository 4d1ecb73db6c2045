-- What may be compared with what: numbers with numbers, texts with texts, truth values with truth values, moments with moments or with text literals that are moments, and a null literal with everything.
use Rattle.std.specs.List.{list_all}
use Rattle.std.specs.Prelude.{Bool, List, None, Option, Some, [], cond, false, int_le, is_ok, max, nat_le, neg_ℤ, not, pos, true, unsigned_abs, ℕ, ◌&&◌, ◌++◌, ◌+◌, ◌-◌, ◌^◌, ◌∷◌}
use Rattle.lq_base.specs.Number.{has_digits}
use Rattle.lq_base.specs.Value.{into_kind}
use Rattle.lq_base.specs.declared.kind.Kind.{Kind}
use Rattle.lq_base.specs.declared.kind.Kind.TheVariants as kind
use Rattle.lq_base.specs.declared.literal.Literal.{Literal}
use Rattle.lq_base.specs.declared.literal.Literal.TheVariants as literal
use Rattle.lq_model.specs.Kinds.{kind_of}
use Rattle.lq_model.specs.Truth.{Both, Either, Turned}
use Rattle.lq_model.specs.declared.column.Column.{Column}
use Rattle.lq_model.specs.declared.test.Operand.{Operand}
use Rattle.lq_model.specs.declared.test.Operand.TheVariants as operand
use Rattle.lq_model.specs.declared.test.Test.{Compare, IsNull, NotNull, Test}

pub data Sort : Type 0 where
  Anything : Sort
  Numbers : Sort
  Texts : Sort
  Dates : Sort
  Truths : Sort
  Moments : Sort

abbrev pub sort_of_kind : Kind → Sort
sort_of_kind kind.Int = Numbers
sort_of_kind kind.BigInt = Numbers
sort_of_kind (kind.Decimal p s) = Numbers
sort_of_kind kind.Boolean = Truths
sort_of_kind (kind.Varchar n) = Texts
sort_of_kind kind.Text = Texts
sort_of_kind kind.Moment = Moments

-- a text literal that is a moment goes with texts and with moments
abbrev pub sort_of_literal : Literal → Sort
sort_of_literal literal.Null = Anything
sort_of_literal (literal.Int n) = Numbers
sort_of_literal (literal.Fixed u s) = Numbers
sort_of_literal (literal.Bool b) = Truths
sort_of_literal (literal.Text t) = cond (is_ok (into_kind (literal.Text t) kind.Moment)) Dates Texts

abbrev pub sort_of_column : Option Kind → Sort
sort_of_column (Some k) = sort_of_kind k
sort_of_column None = Anything

abbrev pub sort_of : List Column → Operand → Sort
sort_of cs (operand.Column n) = sort_of_column (kind_of n cs)
sort_of cs (operand.Literal l) = sort_of_literal l

abbrev pub go_together : Sort → Sort → Bool
go_together Anything _ = true
go_together Numbers Numbers = true
go_together Texts Texts = true
go_together Texts Dates = true
go_together Dates Texts = true
go_together Dates Dates = true
go_together Dates Moments = true
go_together Moments Dates = true
go_together Moments Moments = true
go_together Truths Truths = true
go_together _ Anything = true
go_together _ _ = false

-- whether each comparison of a test is of what may be compared
abbrev pub kinds_agree : List Column → Test → Bool
kinds_agree cs (Compare op x y) = go_together (sort_of cs x) (sort_of cs y)
kinds_agree cs (IsNull x) = true
kinds_agree cs (NotNull x) = true
kinds_agree cs (Both a b) = kinds_agree cs a && kinds_agree cs b
kinds_agree cs (Either a b) = kinds_agree cs a && kinds_agree cs b
kinds_agree cs (Turned a) = kinds_agree cs a

-- whether a test compares what may not be compared
abbrev pub compares_wrongly : List Column → Option Test → Bool
compares_wrongly cs None = false
compares_wrongly cs (Some t) = not (kinds_agree cs t)

-- What a text can spell of a literal and a test.

-- a number within 128 signed bits, a decimal number with a digit after the point and at most 38 digits
abbrev pub is_literal : Literal → Bool
is_literal (literal.Int n) = int_le (neg_ℤ (pos (2 ^ 127))) n && int_le n (pos (2 ^ 127 - 1))
is_literal (literal.Fixed u s) = nat_le 1 s && (nat_le s 37 && has_digits 38 (unsigned_abs u))
is_literal _ = true

abbrev pub operand_literals : Operand → List Literal
operand_literals (operand.Column n) = []
operand_literals (operand.Literal l) = l ∷ []

abbrev pub test_literals : Test → List Literal
test_literals (Compare op x y) = operand_literals x ++ operand_literals y
test_literals (IsNull x) = operand_literals x
test_literals (NotNull x) = operand_literals x
test_literals (Both a b) = test_literals a ++ test_literals b
test_literals (Either a b) = test_literals a ++ test_literals b
test_literals (Turned a) = test_literals a

-- how deep AND, OR and NOT stand in one another
abbrev pub levels : Test → ℕ
levels (Compare op x y) = 0
levels (IsNull x) = 0
levels (NotNull x) = 0
levels (Both a b) = max (levels a) (levels b) + 1
levels (Either a b) = max (levels a) (levels b) + 1
levels (Turned a) = levels a + 1

-- at most 64 levels, and literals that can be written
abbrev pub is_spelled : Option Test → Bool
is_spelled None = true
is_spelled (Some t) = nat_le (levels t) 64 && list_all is_literal (test_literals t)
