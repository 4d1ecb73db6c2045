-- Control characters, and how many characters a text has.
use Rattle.std.specs.Char.{is_ascii_digit}
use Rattle.std.specs.Fmt.{decimal, sign_text, signed_decimal}
use Rattle.std.specs.Int.{is_negative}
use Rattle.std.specs.List.{after_first, before_first, list_all, list_any, position_or_len}
use Rattle.std.specs.Prelude.{Bool, List, None, Option, Some, [], drop, if◌then◌else◌, length, min, nat_le, nat_lt, neg_ℤ, pos, suc, true, unsigned_abs, zero, ℕ, ℤ, ◌%◌, ◌&&◌, ◌++◌, ◌+◌, ◌/◌, ◌==◌, ◌^◌, ◌||◌, ◌∷◌}
use Rattle.std.specs.Str.{chars}
use Rattle.std.specs.Str.Parse.{digits_value, starts_with_minus}
use Rattle.lq_base.specs.declared.literal.Literal.{Literal}
use Rattle.lq_base.specs.declared.literal.Literal.TheVariants.{Fixed, Int}

-- a byte below U+0020, or U+007F
abbrev pub is_control : ℕ → Bool
is_control byte = nat_lt byte 32 || byte == 127

-- some byte of the text is a control character
abbrev pub has_control : List ℕ → Bool
has_control bytes = list_any is_control bytes

-- the number of characters, which are Unicode scalar values
abbrev pub char_count : List ℕ → ℕ
char_count bytes = length (chars bytes)

-- Which texts spell a number, and how a number is written.

-- the number with this sign and magnitude
abbrev pub signed : Bool → ℕ → ℤ
signed negative magnitude = if negative then neg_ℤ (pos magnitude) else pos magnitude

-- at most so many digits, and never more than 38
abbrev pub has_digits : ℕ → ℕ → Bool
has_digits digits magnitude = nat_lt magnitude (10 ^ min digits 38)

-- one decimal digit or more, and nothing else
abbrev pub is_digits : List ℕ → Bool
is_digits text = nat_lt 0 (length text) && list_all is_ascii_digit text

abbrev pub without_minus : List ℕ → List ℕ
without_minus text = if starts_with_minus text then drop 1 text else text

abbrev pub is_dot : ℕ → Bool
is_dot byte = byte == 46

-- a whole number: `-?digits`, at most 38 digits
abbrev pub whole_number : Bool → List ℕ → Option Literal
whole_number negative digits =
    if is_digits digits && nat_le (length digits) 38
    then Some (Int (signed negative (digits_value 10 digits))) else None

-- a decimal number: `-?digits.digits`, at most 38 digits in all
abbrev pub decimal_number : Bool → List ℕ → List ℕ → Option Literal
decimal_number negative whole fraction =
    if (is_digits whole && is_digits fraction) && nat_le (length whole + length fraction) 38
    then Some (Fixed (signed negative (digits_value 10 (whole ++ fraction))) (length fraction)) else None

-- of what follows the sign
abbrev pub unsigned_number : Bool → List ℕ → Option Literal
unsigned_number negative text =
    if nat_lt (position_or_len is_dot text) (length text)
    then decimal_number negative (before_first is_dot text) (after_first is_dot text)
    else whole_number negative text

-- the number that a text spells (`SpellsNumber` of Spells.antt), or none
unfoldable pub number_of : List ℕ → Option Literal
number_of text = unsigned_number (starts_with_minus text) (without_minus text)

-- a whole number in decimal digits, `-` before a negative one
abbrev pub whole_text : ℤ → List ℕ
whole_text = signed_decimal

-- the last so many decimal digits
abbrev pub last_digits : ℕ → ℕ → List ℕ
last_digits zero n = []
last_digits (suc count) n = last_digits count (n / 10) ++ (48 + n % 10) ∷ []

-- units divided by ten to the power of scale, with as many digits after the dot; without a dot where there are none
abbrev pub fixed_text : ℤ → ℕ → List ℕ
fixed_text units zero = whole_text units
fixed_text units (suc more) =
    sign_text (is_negative units) ++ decimal (unsigned_abs units / 10 ^ suc more)
    ++ 46 ∷ last_digits (suc more) (unsigned_abs units)

-- What may be there or not.

-- what holds of something that may not be there, where it is there
abbrev pub if_there : {A : Type 0} → (A → Bool) → Option A → Bool
if_there p None = true
if_there p (Some a) = p a
