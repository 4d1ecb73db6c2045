-- Moments: milliseconds since 1970-01-01 00:00:00, in the years 1 to 9999 of the Gregorian calendar.
use Rattle.std.specs.Char.{is_ascii_digit}
use Rattle.std.specs.Int.{is_in_range}
use Rattle.std.specs.List.{list_all}
use Rattle.std.specs.Prelude.{Bool, List, None, Option, Some, drop, if◌then◌else◌, int_le, length, nat_lt, neg_ℤ, option_and_then, option_map, pos, slice_index, suc, take, unsigned_abs, zero, ℕ, ℤ, ◌%◌, ◌&&◌, ◌*ℤ◌, ◌*◌, ◌++◌, ◌+ℤ◌, ◌+◌, ◌/◌, ◌==◌, ◌||◌, ◌∷◌, ◌≤ℤ◌}
use Rattle.std.specs.Str.Parse.{digits_value}
use Rattle.jiff_core.specs.Calendar.{days_from_civil, days_in_month}
use Rattle.jiff_core.specs.declared.civil.date.Date.{Date}
use Rattle.lq_base.specs.Number.{last_digits}

-- from 0001-01-01 00:00:00.000 to 9999-12-31 23:59:59.999
abbrev pub IsMoment : ℤ → Type 0
IsMoment ms = (neg_ℤ (pos 62_135_596_800_000) ≤ℤ ms) × (ms ≤ℤ pos 253_402_300_799_999)

abbrev pub is_moment : ℤ → Bool
is_moment ms = int_le (neg_ℤ (pos 62_135_596_800_000)) ms && int_le ms (pos 253_402_300_799_999)

pub record Day : Type 0 where
  pub year : ℕ
  pub month : ℕ
  pub day : ℕ

abbrev pub day_of_date : Date → Day
day_of_date d = record { year = unsigned_abs d.year; month = d.month; day = d.day }

-- the day after: the next of the month, or the first of the next month, or the first of the next year
abbrev pub next_day : Day → Day
next_day d =
    if nat_lt d.day (days_in_month (pos d.year) d.month) then record { year = d.year; month = d.month; day = d.day + 1 }
    else (if nat_lt d.month 12 then record { year = d.year; month = d.month + 1; day = 1 }
    else record { year = d.year + 1; month = 1; day = 1 })

-- the day so many days after 0001-01-01
unfoldable pub day_after : ℕ → Day
day_after zero = record { year = 1; month = 1; day = 1 }
day_after (suc count) = next_day (day_after count)

-- `YYYY-MM-DD`
abbrev pub day_text : Day → List ℕ
day_text d = last_digits 4 d.year ++ 45 ∷ last_digits 2 d.month ++ 45 ∷ last_digits 2 d.day

-- `HH:MM:SS.mmm` of so many milliseconds since midnight
abbrev pub clock_text : ℕ → List ℕ
clock_text ms =
    last_digits 2 (ms / 3_600_000) ++ 58 ∷ last_digits 2 (ms / 60_000 % 60) ++ 58 ∷ last_digits 2 (ms / 1000 % 60)
    ++ 46 ∷ last_digits 3 (ms % 1000)

-- of so many milliseconds since 0001-01-01 00:00:00
abbrev pub text_since : ℕ → List ℕ
text_since ms = day_text (day_after (ms / 86_400_000)) ++ 32 ∷ clock_text (ms % 86_400_000)

-- the moment's 23 bytes, `YYYY-MM-DD HH:MM:SS.mmm`
unfoldable pub moment_text : ℤ → List ℕ
moment_text ms = text_since (unsigned_abs (ms +ℤ pos 62_135_596_800_000))

-- the byte at a place
abbrev pub has_byte : ℕ → ℕ → List ℕ → Bool
has_byte place byte text = slice_index text place == byte

-- the marks of `YYYY-MM-DD`, and those that a time of day adds
abbrev pub has_day_marks : List ℕ → Bool
has_day_marks text = has_byte 4 45 text && has_byte 7 45 text

abbrev pub has_clock_marks : List ℕ → Bool
has_clock_marks text = (has_byte 10 32 text || has_byte 10 84 text) && (has_byte 13 58 text && has_byte 16 58 text)

-- `YYYY-MM-DD`, and after it nothing, or a blank or `T` and `HH:MM:SS`, or that and `.mmm`
abbrev pub has_marks : List ℕ → Bool
has_marks text = has_day_marks text && (length text == 10
    || (has_clock_marks text && (length text == 19 || (length text == 23 && has_byte 19 46 text))))

-- the number that the digits of a part write, 0 where the text ends before it
abbrev pub digits_at : ℕ → ℕ → List ℕ → Option ℕ
digits_at start count text =
    let digits = take count (drop start text) in
    if list_all is_ascii_digit digits then Some (digits_value 10 digits) else None

-- a day that the calendar has, as the number of days since 1970-01-01
abbrev pub day_number : ℕ → ℕ → ℕ → Option ℤ
day_number year month day =
    if (is_in_range 1 9999 year && is_in_range 1 12 month) && is_in_range 1 (days_in_month (pos year) month) day
    then Some (days_from_civil (pos year) month day) else None

abbrev pub day_of : List ℕ → Option ℤ
day_of text =
    option_and_then (λ year. option_and_then (λ month. option_and_then (λ day. day_number year month day)
    (digits_at 8 2 text)) (digits_at 5 2 text)) (digits_at 0 4 text)

-- a time of day, as milliseconds since midnight
abbrev pub clock_number : ℕ → ℕ → ℕ → ℕ → Option ℕ
clock_number hour minute second milli =
    if nat_lt hour 24 && (nat_lt minute 60 && nat_lt second 60)
    then Some (((hour * 60 + minute) * 60 + second) * 1000 + milli) else None

abbrev pub clock_of : List ℕ → Option ℕ
clock_of text =
    option_and_then (λ hour. option_and_then (λ minute. option_and_then (λ second. option_and_then (λ milli. clock_number hour minute second milli)
    (digits_at 20 3 text)) (digits_at 17 2 text)) (digits_at 14 2 text)) (digits_at 11 2 text)

abbrev pub moment_by_parts : List ℕ → Option ℤ
moment_by_parts text =
    if has_marks text
    then option_and_then (λ day. option_map (λ clock. (day *ℤ pos 86_400_000) +ℤ pos clock) (clock_of text)) (day_of text)
    else None

-- the moment that a text spells (`SpellsMoment` of Spells.antt), or none
unfoldable pub moment_of : List ℕ → Option ℤ
moment_of text = moment_by_parts text
