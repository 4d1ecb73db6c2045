-- The values that a changelog states, each by one of four keys.
use Rattle.std.specs.Prelude.{Bool, Err, List, None, Ok, Option, Some, [], if◌then◌else◌, is_some, nat_le, option_and_then, true, unsigned_abs, ℕ, ℤ, ◌&&◌, ◌∷◌}
use Rattle.lq_base.specs.Moment.{moment_of}
use Rattle.lq_base.specs.Number.{has_digits, number_of}
use Rattle.lq_base.specs.declared.fault.KindFault.TheVariants.{Bad}
use Rattle.lq_base.specs.declared.literal.Literal.{Literal}
use Rattle.lq_base.specs.declared.literal.Literal.TheVariants as literal
use Rattle.lq_tree.specs.Given.{is_whole}
use Rattle.lq_tree.specs.Keys.{Keys}
use Rattle.lq_tree.specs.Look.{Found, and_then, map_found, or_bad, printed_of, text_of, truth_of, value_at, within}
use Rattle.lq_tree.specs.declared.node.Node.{Node}
use Rattle.lq_tree.specs.declared.values.GivenValue.{GivenValue}
use Rattle.lq_tree.specs.declared.values.GivenValue.TheVariants.{Date, Decimal, Text, Truth, Whole}
use Rattle.lq_tree.specs.declared.values.ValueKey.{ValueKey}
use Rattle.lq_tree.specs.declared.values.ValueKey.TheVariants as key

-- the literal that a statement has for it
abbrev pub literal_of : GivenValue → Literal
literal_of (Text t) = literal.Text t
literal_of (Whole n) = literal.Int n
literal_of (Decimal units scale) = literal.Fixed units scale
literal_of (Truth b) = literal.Bool b
literal_of (Date t) = literal.Text t

-- a decimal number that has a digit before the point and one behind it, and at most 38 digits
abbrev pub is_decimal : ℤ → ℕ → Bool
is_decimal units scale = nat_le 1 scale && (nat_le scale 37 && has_digits 38 (unsigned_abs units))

-- a value that a key can state: its number can be written
abbrev pub is_given : GivenValue → Bool
is_given (Whole n) = is_whole n
is_given (Decimal units scale) = is_decimal units scale
is_given _ = true

abbrev pub number_given : Literal → Option GivenValue
number_given (literal.Int n) = Some (Whole n)
number_given (literal.Fixed units scale) = Some (Decimal units scale)
number_given _ = None

abbrev pub is_moment : List ℕ → Bool
is_moment t = is_some (moment_of t)

-- what each of the four keys takes: a text, a number that may be spelled, a truth value, a text that is a moment
abbrev pub a_value : ValueKey → Node → Option GivenValue
a_value key.Text n = option_and_then (λ t. Some (Text t)) (printed_of n)
a_value key.Number n = option_and_then number_given (option_and_then number_of (printed_of n))
a_value key.Truth n = option_and_then (λ b. Some (Truth b)) (truth_of n)
a_value key.Date n = option_and_then (λ t. if is_moment t then Some (Date t) else None) (text_of n)

-- one of the keys: where another one was there, it is bad
abbrev pub at_member : List ℕ → ValueKey → Option GivenValue → Option Node → Found (Option GivenValue)
at_member name takes found None = Ok found
at_member name takes None (Some n) = map_found (λ v. Some v) (within name (or_bad (a_value takes n)))
at_member name takes (Some v) (Some n) = Err (Bad name)

abbrev pub member : List ℕ → ValueKey → Option GivenValue → Node → Found (Option GivenValue)
member name takes found n = at_member name takes found (value_at name n)

-- the four keys, of which one at most may be there
abbrev pub family : List ℕ → List ℕ → List ℕ → List ℕ → Keys (Option GivenValue)
family text number truth date = record {
  names = text ∷ number ∷ truth ∷ date ∷ [];
  says = λ n.
      and_then (member text key.Text None n) (λ a.
      and_then (member number key.Number a n) (λ b.
      and_then (member truth key.Truth b n) (λ c.
      member date key.Date c n)));
}
