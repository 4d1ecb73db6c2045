-- The parts that statements, queries and tests share: names, literals and kinds.
use Rattle.std.specs.List.{list_any}
use Rattle.std.specs.Prelude.{Bool, List, None, Option, Some, false, if◌then◌else◌, true, ℕ, ◌&&◌}
use Rattle.std.specs.Str.Parse.{digits_value, starts_with_minus}
use Rattle.lq_base.specs.Kind.{decimal_kind, plain_kind, plain_number, sized_kind}
use Rattle.lq_base.specs.Name.{is_name, within}
use Rattle.lq_base.specs.Number.{is_digits, is_dot, number_of, signed, without_minus}
use Rattle.lq_base.specs.declared.dialect.Dialect.{Dialect}
use Rattle.lq_base.specs.declared.dialect.Dialect.TheVariants.{Mysql, Postgresql}
use Rattle.lq_base.specs.declared.kind.Kind.{Kind}
use Rattle.lq_base.specs.declared.literal.Literal.{Literal}
use Rattle.lq_base.specs.declared.literal.Literal.TheVariants as constant
use Rattle.lq_base.specs.declared.name.Name.{Name}
use Rattle.lq_model.specs.Comparison.{is_literal}
use Rattle.lq_model.specs.SqlParser.{Parser, eat, expect, given, peek, pure, refuse, same_kind, skip, taken, ◌>>=◌, ◌>>◌}
use Rattle.lq_model.specs.SqlWord.{may_be_name}
use Rattle.lq_model.specs.declared.word.WordKind.{WordKind}
use Rattle.lq_model.specs.declared.word.WordKind.TheVariants as word

-- names

-- 1 to 63 bytes, none a control character
unfoldable pub name_of : List ℕ → Option Name
name_of found = if is_name found then Some found else None

-- in quotes, or a word that is no reserved word
unfoldable pub name : Parser Name
name = do
  found ← peek
  if may_be_name found then taken >>= (λ it. given (name_of it)) else refuse

-- a text in a schema that is stated
abbrev pub qualified : Name → Name → Option Name
qualified schema text = if is_name schema && is_name text then Some (within schema text) else None

-- the name of a table, a view or a sequence, and of an index that is dropped: in postgresql a schema and a dot may stand before it
unfoldable pub object : Dialect → Parser Name
object Mysql = name
object Postgresql = do
  first ← name
  more ← eat word.Dot
  if more then name >>= (λ text. given (qualified first text)) else pure first

-- literals

-- a sign and digits, within 128 signed bits
abbrev pub whole_by : Bool → List ℕ → Option Literal
whole_by negative digits =
    let whole = constant.Int (signed negative (digits_value 10 digits)) in
    if is_digits digits && is_literal whole then Some whole else None

-- `-?digits`, or `-?digits.digits` with at most 38 digits
unfoldable pub number : List ℕ → Option Literal
number found = if list_any is_dot found then number_of found else whole_by (starts_with_minus found) (without_minus found)

abbrev pub literal_by : WordKind → Parser Literal
literal_by word.Null = skip >> pure constant.Null
literal_by word.True = skip >> pure (constant.Bool true)
literal_by word.False = skip >> pure (constant.Bool false)
literal_by word.Text = taken >>= (λ it. pure (constant.Text it))
literal_by word.Number = taken >>= (λ it. given (number it))
literal_by _ = refuse

unfoldable pub literal : Parser Literal
literal = peek >>= literal_by

-- kinds of columns

-- decimal digits without a leading zero
unfoldable pub kind_number : Parser ℕ
kind_number = do
  found ← peek
  if same_kind found word.Number then taken >>= (λ it. given (plain_number it)) else refuse

-- a word with one number
unfoldable pub sized_with : List ℕ → ℕ → Parser Kind
sized_with said first = do
  expect word.Close
  given (sized_kind said first)

-- a word with two
unfoldable pub decimal_with : List ℕ → ℕ → Parser Kind
decimal_with said first = do
  second ← kind_number
  expect word.Close
  given (decimal_kind said first second)

-- what follows a word and `(`
unfoldable pub kind_with : List ℕ → Parser Kind
kind_with said = do
  first ← kind_number
  more ← eat word.Comma
  if more then decimal_with said first else sized_with said first

-- `WORD`, `WORD (n)` or `WORD (n, n)`, as in a changelog
unfoldable pub column_kind : Parser Kind
column_kind = do
  found ← peek
  said ← taken
  sized ← eat word.Open
  if same_kind found word.Plain then (if sized then kind_with said else given (plain_kind said)) else refuse
