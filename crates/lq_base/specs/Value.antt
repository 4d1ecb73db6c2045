-- Which values are of a kind, and what a literal becomes in one.
use Rattle.std.specs.Int.{is_negative}
use Rattle.std.specs.Option.{option_and_then}
use Rattle.std.specs.Ordering.{int_eq}
use Rattle.std.specs.Prelude.{Bool, Err, List, None, Ok, Option, Result, Some, codes, false, if◌then◌else◌, int_le, nat_le, nat_lt, neg_ℤ, option_map, pos, true, unsigned_abs, ℕ, ℤ, ◌&&◌, ◌*◌, ◌-◌, ◌==◌, ◌^◌, ◌||◌}
use Rattle.std.specs.Str.{str_eq_ignore_ascii_case}
use Rattle.lq_base.specs.Moment.{is_moment, moment_of}
use Rattle.lq_base.specs.Number.{char_count, has_digits, number_of, signed}
use Rattle.lq_base.specs.declared.kind.Kind.{Kind}
use Rattle.lq_base.specs.declared.kind.Kind.TheVariants as kind
use Rattle.lq_base.specs.declared.literal.Literal.{Literal}
use Rattle.lq_base.specs.declared.literal.Literal.TheVariants as literal
use Rattle.lq_base.specs.declared.reason.Reason.{Reason}
use Rattle.lq_base.specs.declared.reason.Reason.TheVariants.{TooWide, WrongKind}
use Rattle.lq_base.specs.declared.value.Value.{Value}
use Rattle.lq_base.specs.declared.value.Value.TheVariants as value

-- whole numbers of 32 and of 64 bits
abbrev pub is_int32 : ℤ → Bool
is_int32 n = int_le (neg_ℤ (pos 2_147_483_648)) n && int_le n (pos 2_147_483_647)

abbrev pub is_int64 : ℤ → Bool
is_int64 n = int_le (neg_ℤ (pos 9_223_372_036_854_775_808)) n && int_le n (pos 9_223_372_036_854_775_807)

-- null, or a value of the kind
unfoldable pub is_value_of : Kind → Value → Bool
is_value_of k value.Null = true
is_value_of kind.Int (value.Int n) = is_int32 n
is_value_of kind.BigInt (value.Int n) = is_int64 n
is_value_of kind.Boolean (value.Bool b) = true
is_value_of (kind.Varchar most) (value.Text text) = nat_le (char_count text) most
is_value_of kind.Text (value.Text text) = true
is_value_of kind.Moment (value.Moment ms) = is_moment ms
is_value_of (kind.Decimal digits places) (value.Fixed units scale) = scale == places && has_digits digits (unsigned_abs units)
is_value_of k v = false

-- What a literal says in a kind, whatever its width: none where literals of its sort do not go into the kind.

-- a number with `places` decimals; one that has more of them stays as it is
abbrev pub with_decimals : ℕ → ℤ → ℕ → Value
with_decimals places units scale =
    if nat_lt places scale then value.Fixed units scale
    else value.Fixed (signed (is_negative units) (unsigned_abs units * 10 ^ (places - scale))) places

-- 0 is false and 1 is true
abbrev pub truth_of_number : ℤ → Option Value
truth_of_number n =
    if int_eq n (pos 0) then Some (value.Bool false) else (if int_eq n (pos 1) then Some (value.Bool true) else None)

-- a number goes into the number kinds, one with decimals into Decimal alone; 0 and 1 go into Boolean
abbrev pub said_by_number : Kind → Literal → Option Value
said_by_number kind.Int (literal.Int n) = Some (value.Int n)
said_by_number kind.BigInt (literal.Int n) = Some (value.Int n)
said_by_number kind.Boolean (literal.Int n) = truth_of_number n
said_by_number (kind.Decimal digits places) (literal.Int n) = Some (with_decimals places n 0)
said_by_number (kind.Decimal digits places) (literal.Fixed units scale) = Some (with_decimals places units scale)
said_by_number k number = None

-- `true`, `false`, `1` and `0`, in any case
abbrev pub truth_of_text : List ℕ → Option Value
truth_of_text text =
    if str_eq_ignore_ascii_case text (codes "true") || str_eq_ignore_ascii_case text (codes "1") then Some (value.Bool true)
    else (if str_eq_ignore_ascii_case text (codes "false") || str_eq_ignore_ascii_case text (codes "0") then Some (value.Bool false)
    else None)

-- a text goes into the text kinds; into Boolean as the truth value, into Moment as the moment, and into the number kinds as the number that it spells
abbrev pub said_by_text : Kind → List ℕ → Option Value
said_by_text kind.Text text = Some (value.Text text)
said_by_text (kind.Varchar most) text = Some (value.Text text)
said_by_text kind.Boolean text = truth_of_text text
said_by_text kind.Moment text = option_map value.Moment (moment_of text)
said_by_text k text = option_and_then (said_by_number k) (number_of text)

-- null goes into every kind, a truth value into Boolean
abbrev pub said_in : Kind → Literal → Option Value
said_in k literal.Null = Some value.Null
said_in k (literal.Text text) = said_by_text k text
said_in kind.Boolean (literal.Bool b) = Some (value.Bool b)
said_in k (literal.Bool b) = None
said_in k number = said_by_number k number

-- within the kind's width: 32 and 64 bits, so many characters, just so many decimals and at most so many digits
abbrev pub has_width : Kind → Value → Bool
has_width kind.Int (value.Int n) = is_int32 n
has_width kind.BigInt (value.Int n) = is_int64 n
has_width (kind.Varchar most) (value.Text text) = nat_le (char_count text) most
has_width (kind.Decimal digits places) (value.Fixed units scale) = scale == places && has_digits digits (unsigned_abs units)
has_width k v = true

abbrev pub within_width : Kind → Option Value → Result Value Reason
within_width k None = Err WrongKind
within_width k (Some v) = if has_width k v then Ok v else Err TooWide

-- the value that the literal becomes in the kind, or the reason why it becomes none
unfoldable pub into_kind : Literal → Kind → Result Value Reason
into_kind l k = within_width k (said_in k l)
