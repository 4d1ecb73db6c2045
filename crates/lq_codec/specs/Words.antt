-- Numbers, truth values and texts as bytes.
use Rattle.std.specs.Int.{cast_signed, cast_unsigned, from_be_bytes, to_be_bytes, w128}
use Rattle.std.specs.Prelude.{Bool, List, None, Option, Some, [], bytes_eq, drop, false, if◌then◌else◌, int_le, length, nat_lt, neg_ℤ, pos, suc, take, true, unsigned_abs, zero, ℕ, ℤ, ◌&&◌, ◌-◌, ◌^◌, ◌∷◌}
use Rattle.std.specs.Str.{is_utf8}
use Rattle.lq_base.specs.Name.{is_name_key}
use Rattle.lq_base.specs.Value.{is_int64}
use Rattle.lq_codec.specs.Codec.{Codec, counted, mapped, one, only_if}

-- a number is 16 bytes in two's complement, greatest first
unfoldable pub number_bytes : ℤ → List ℕ
number_bytes n = to_be_bytes w128 (cast_unsigned w128 n)

unfoldable pub front_number : List ℕ → ℤ
front_number bytes = cast_signed w128 (from_be_bytes w128 (take 16 bytes))

abbrev pub fits : ℤ → Bool
fits n = int_le (neg_ℤ (pos (2 ^ 127))) n && int_le n (pos (2 ^ 127 - 1))

-- the number whose bytes stand at the front
abbrev pub read_number : List ℕ → Option (ℤ × List ℕ)
read_number bytes =
    if fits (front_number bytes) && bytes_eq (take 16 bytes) (number_bytes (front_number bytes))
    then Some (front_number bytes, drop 16 bytes) else None

unfoldable pub number : Codec ℤ
number = record { ok = fits; write = number_bytes; read = read_number }

unfoldable pub small_number : Codec ℤ
small_number = only_if is_int64 number

-- one from 0 on, below a bound
abbrev pub is_from_zero : ℕ → ℤ → Bool
is_from_zero most n = int_le (pos 0) n && nat_lt (unsigned_abs n) most

abbrev pub as_number : ℕ → Option ℤ
as_number n = Some (pos n)

abbrev pub below : ℕ → Codec ℕ
below most = mapped unsigned_abs as_number (only_if (is_from_zero most) number)

-- how many there are
unfoldable pub count : Codec ℕ
count = below (2 ^ 64)

-- how wide a text may be, and how many digits there are
unfoldable pub width : Codec ℕ
width = below (2 ^ 32)

unfoldable pub digits : Codec ℕ
digits = below 256

-- a byte
abbrev pub read_byte : List ℕ → Option (ℕ × List ℕ)
read_byte [] = None
read_byte (byte ∷ rest) = Some (byte, rest)

abbrev pub any_byte : ℕ → Bool
any_byte byte = true

abbrev pub byte : Codec ℕ
byte = record { ok = any_byte; write = λ b. b ∷ []; read = read_byte }

-- a text is its length and its bytes, which are UTF-8
unfoldable pub text : Codec (List ℕ)
text = only_if is_utf8 (counted count byte)

-- a name is its key
unfoldable pub name : Codec (List ℕ)
name = only_if is_name_key text

-- a truth value is the byte 0 or 1
abbrev pub truth_of_place : ℕ → Bool
truth_of_place zero = false
truth_of_place (suc n) = true

abbrev pub place_of_truth : Bool → Option ℕ
place_of_truth false = Some 0
place_of_truth true = Some 1

abbrev pub is_below : ℕ → ℕ → Bool
is_below most n = nat_lt n most

unfoldable pub truth : Codec Bool
truth = mapped truth_of_place place_of_truth (only_if (is_below 2) byte)
