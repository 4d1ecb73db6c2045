-- The bytes of kinds, values and literals.
use Rattle.std.specs.Prelude.{Bool, List, None, Option, Some, [], ℕ, ℤ, ◌∷◌}
use Rattle.lq_base.specs.declared.kind.Kind.{Kind}
use Rattle.lq_base.specs.declared.kind.Kind.TheVariants as kind
use Rattle.lq_base.specs.declared.literal.Literal.{Literal}
use Rattle.lq_base.specs.declared.literal.Literal.TheVariants as literal
use Rattle.lq_base.specs.declared.value.Value.{Value}
use Rattle.lq_base.specs.declared.value.Value.TheVariants as value
use Rattle.lq_codec.specs.Codec.{Codec, always, both, mapped, one, variant}
use Rattle.lq_codec.specs.Words.{digits, number, small_number, text, truth, width}

-- kinds
abbrev pub kind_place : Kind → ℕ
kind_place kind.Int = 0
kind_place kind.BigInt = 1
kind_place kind.Boolean = 2
kind_place (kind.Varchar most) = 3
kind_place kind.Text = 4
kind_place kind.Moment = 5
kind_place (kind.Decimal d s) = 6

abbrev pub in_int : Kind → Option (Unit {0})
in_int kind.Int = Some tt
in_int _ = None

abbrev pub in_big_int : Kind → Option (Unit {0})
in_big_int kind.BigInt = Some tt
in_big_int _ = None

abbrev pub in_boolean : Kind → Option (Unit {0})
in_boolean kind.Boolean = Some tt
in_boolean _ = None

abbrev pub in_varchar : Kind → Option ℕ
in_varchar (kind.Varchar most) = Some most
in_varchar _ = None

abbrev pub in_text_kind : Kind → Option (Unit {0})
in_text_kind kind.Text = Some tt
in_text_kind _ = None

abbrev pub in_moment_kind : Kind → Option (Unit {0})
in_moment_kind kind.Moment = Some tt
in_moment_kind _ = None

abbrev pub as_decimal : ℕ × ℕ → Kind
as_decimal p = kind.Decimal p.0 p.1

abbrev pub in_decimal : Kind → Option (ℕ × ℕ)
in_decimal (kind.Decimal digits scale) = Some (digits, scale)
in_decimal _ = None

abbrev pub kind_cases : List (Codec Kind)
kind_cases =
    mapped (always kind.Int) in_int one ∷ mapped (always kind.BigInt) in_big_int one
    ∷ mapped (always kind.Boolean) in_boolean one ∷ mapped kind.Varchar in_varchar width
    ∷ mapped (always kind.Text) in_text_kind one ∷ mapped (always kind.Moment) in_moment_kind one
    ∷ mapped as_decimal in_decimal (both digits digits) ∷ []

unfoldable pub kind_codec : Codec Kind
kind_codec = variant kind_place kind_cases

-- values
abbrev pub value_place : Value → ℕ
value_place value.Null = 0
value_place (value.Int n) = 1
value_place (value.Text t) = 2
value_place (value.Bool b) = 3
value_place (value.Moment ms) = 4
value_place (value.Fixed units scale) = 5

abbrev pub in_null : Value → Option (Unit {0})
in_null value.Null = Some tt
in_null _ = None

abbrev pub in_number : Value → Option ℤ
in_number (value.Int n) = Some n
in_number _ = None

abbrev pub in_text : Value → Option (List ℕ)
in_text (value.Text t) = Some t
in_text _ = None

abbrev pub in_truth : Value → Option Bool
in_truth (value.Bool b) = Some b
in_truth _ = None

abbrev pub in_moment : Value → Option ℤ
in_moment (value.Moment ms) = Some ms
in_moment _ = None

abbrev pub as_fixed : ℤ × ℕ → Value
as_fixed p = value.Fixed p.0 p.1

abbrev pub in_fixed : Value → Option (ℤ × ℕ)
in_fixed (value.Fixed units scale) = Some (units, scale)
in_fixed _ = None

abbrev pub value_cases : List (Codec Value)
value_cases =
    mapped (always value.Null) in_null one ∷ mapped value.Int in_number small_number
    ∷ mapped value.Text in_text text ∷ mapped value.Bool in_truth truth
    ∷ mapped value.Moment in_moment small_number ∷ mapped as_fixed in_fixed (both number digits) ∷ []

unfoldable pub value_codec : Codec Value
value_codec = variant value_place value_cases

-- literals
abbrev pub literal_place : Literal → ℕ
literal_place literal.Null = 0
literal_place (literal.Int n) = 1
literal_place (literal.Fixed units scale) = 2
literal_place (literal.Text t) = 3
literal_place (literal.Bool b) = 4

abbrev pub in_null_literal : Literal → Option (Unit {0})
in_null_literal literal.Null = Some tt
in_null_literal _ = None

abbrev pub in_number_literal : Literal → Option ℤ
in_number_literal (literal.Int n) = Some n
in_number_literal _ = None

abbrev pub as_fixed_literal : ℤ × ℕ → Literal
as_fixed_literal p = literal.Fixed p.0 p.1

abbrev pub in_fixed_literal : Literal → Option (ℤ × ℕ)
in_fixed_literal (literal.Fixed units scale) = Some (units, scale)
in_fixed_literal _ = None

abbrev pub in_text_literal : Literal → Option (List ℕ)
in_text_literal (literal.Text t) = Some t
in_text_literal _ = None

abbrev pub in_truth_literal : Literal → Option Bool
in_truth_literal (literal.Bool b) = Some b
in_truth_literal _ = None

abbrev pub literal_cases : List (Codec Literal)
literal_cases =
    mapped (always literal.Null) in_null_literal one ∷ mapped literal.Int in_number_literal number
    ∷ mapped as_fixed_literal in_fixed_literal (both number digits) ∷ mapped literal.Text in_text_literal text
    ∷ mapped literal.Bool in_truth_literal truth ∷ []

unfoldable pub literal_codec : Codec Literal
literal_codec = variant literal_place literal_cases
