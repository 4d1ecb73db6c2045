-- Which kinds there are, which texts name one, and how a kind is spelled.
use Rattle.std.specs.Char.{is_ascii_digit}
use Rattle.std.specs.Fmt.{decimal}
use Rattle.std.specs.Int.{is_in_range}
use Rattle.std.specs.List.{after_first, before_first, list_all, position_or_len}
use Rattle.std.specs.Map.{lookup}
use Rattle.std.specs.Prelude.{Bool, List, None, Option, Some, [], codes, drop, if◌then◌else◌, length, nat_le, nat_lt, not, option_and_then, slice_index, take, true, ℕ, ◌&&◌, ◌++◌, ◌-◌, ◌==◌, ◌||◌, ◌∷◌}
use Rattle.std.specs.Str.{str_eq_ignore_ascii_case}
use Rattle.std.specs.Str.Parse.{digits_value}
use Rattle.lq_base.specs.Number.{is_digits}
use Rattle.lq_base.specs.declared.dialect.Dialect.{Dialect}
use Rattle.lq_base.specs.declared.dialect.Dialect.TheVariants.{Mysql, Postgresql}
use Rattle.lq_base.specs.declared.kind.Kind.{Kind}
use Rattle.lq_base.specs.declared.kind.Kind.TheVariants.{BigInt, Boolean, Decimal, Int, Moment, Text, Varchar}

-- a kind that can be named: a text of 1 to 10,000 characters at most, a decimal of 1 to 38 digits
abbrev pub is_kind : Kind → Bool
is_kind (Varchar most) = is_in_range 1 10000 most
is_kind (Decimal digits scale) = is_in_range 1 38 digits && nat_le scale digits
is_kind _ = true

-- the kinds that one word names
abbrev pub kind_words : List (List ℕ × Kind)
kind_words =
    (codes "int", Int) ∷ (codes "integer", Int) ∷ (codes "bigint", BigInt)
    ∷ (codes "boolean", Boolean) ∷ (codes "bool", Boolean)
    ∷ (codes "text", Text) ∷ (codes "clob", Text)
    ∷ (codes "timestamp", Moment) ∷ (codes "datetime", Moment) ∷ []

-- the kind of a word, of a word with one number, and of a word with two, the word in any case
unfoldable pub plain_kind : List ℕ → Option Kind
plain_kind word = lookup (str_eq_ignore_ascii_case word) kind_words

unfoldable pub sized_kind : List ℕ → ℕ → Option Kind
sized_kind word number =
    if str_eq_ignore_ascii_case word (codes "varchar") then (if is_kind (Varchar number) then Some (Varchar number) else None)
    else (if str_eq_ignore_ascii_case word (codes "datetime") && number == 3 then Some Moment else None)

unfoldable pub decimal_kind : List ℕ → ℕ → ℕ → Option Kind
decimal_kind word digits scale =
    if (str_eq_ignore_ascii_case word (codes "decimal") || str_eq_ignore_ascii_case word (codes "numeric"))
    && is_kind (Decimal digits scale)
    then Some (Decimal digits scale) else None

-- a number in decimal digits, at most 38, without a leading zero
abbrev pub plain_number : List ℕ → Option ℕ
plain_number text =
    if is_digits text && (nat_le (length text) 38 && (length text == 1 || not (slice_index text 0 == 48)))
    then Some (digits_value 10 text) else None

-- a space or a tab
abbrev pub is_blank : ℕ → Bool
is_blank byte = byte == 32 || byte == 9

abbrev pub is_no_blank : ℕ → Bool
is_no_blank byte = not (is_blank byte)

abbrev pub is_no_digit : ℕ → Bool
is_no_digit byte = not (is_ascii_digit byte)

-- the digits at the front, and what follows them, which has to be blanks
abbrev pub number_before_blanks : List ℕ → Option ℕ
number_before_blanks text =
    let count = position_or_len is_no_digit text in
    if list_all is_blank (drop count text) then plain_number (take count text) else None

-- a number with blanks around it
abbrev pub spaced_number : List ℕ → Option ℕ
spaced_number text = number_before_blanks (drop (position_or_len is_no_blank text) text)

abbrev pub is_comma : ℕ → Bool
is_comma byte = byte == 44

abbrev pub is_open : ℕ → Bool
is_open byte = byte == 40

-- a word with what stands inside its parentheses: one number, or two with a comma between
abbrev pub kind_with : List ℕ → List ℕ → Option Kind
kind_with word inside =
    if nat_lt (position_or_len is_comma inside) (length inside)
    then option_and_then (λ digits. option_and_then (decimal_kind word digits) (spaced_number (after_first is_comma inside))) (spaced_number (before_first is_comma inside))
    else option_and_then (sized_kind word) (spaced_number inside)

-- a word with what follows its `(`, which ends with `)`
abbrev pub kind_after_open : List ℕ → List ℕ → Option Kind
kind_after_open word rest =
    if slice_index rest (length rest - 1) == 41 then kind_with word (take (length rest - 1) rest) else None

-- `WORD`, `WORD(number)` or `WORD(number, number)`
abbrev pub kind_by_parts : List ℕ → Option Kind
kind_by_parts text =
    if nat_lt (position_or_len is_open text) (length text)
    then kind_after_open (before_first is_open text) (after_first is_open text) else plain_kind text

-- the kind that a text names (`NamesKind` of Spells.antt), or none
unfoldable pub kind_of : List ℕ → Option Kind
kind_of text = kind_by_parts text

-- how the dialect spells the kind
abbrev pub kind_text : Dialect → Kind → List ℕ
kind_text Postgresql Int = codes "INTEGER"
kind_text Mysql Int = codes "INT"
kind_text _ BigInt = codes "BIGINT"
kind_text _ Boolean = codes "BOOLEAN"
kind_text _ (Varchar most) = codes "VARCHAR(" ++ decimal most ++ codes ")"
kind_text _ Text = codes "TEXT"
kind_text Postgresql Moment = codes "TIMESTAMP"
kind_text Mysql Moment = codes "DATETIME(3)"
kind_text _ (Decimal digits scale) = codes "DECIMAL(" ++ decimal digits ++ codes ", " ++ decimal scale ++ codes ")"
