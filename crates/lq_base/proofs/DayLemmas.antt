-- The days counted from 0001-01-01 are the calendar's.
use Rattle.std.proofs.Common.{◌≡◌, ℕ, zero, suc, ◌+◌, ◌<◌, ◌≤◌, Bool, true, false, nat_lt, cond, refl, arith, tests, rules, ℤ, pos, neg_ℤ, ◌+ℤ◌, ◌≤ℤ◌, inl, inr}
use Rattle.std.specs.Int.{IsInRange}
use Rattle.std.proofs.lemmas.Int.{by_lt_z}
use Rattle.jiff_core.specs.declared.civil.date.Date.{Date}
use Rattle.jiff_core.specs.Calendar.{day_count, days_in_month, days_from_civil}
use Rattle.jiff_core.specs.Date.{epoch_day}
use Rattle.jiff_core.proofs.SignedLemmas.{signed_arith}
use Rattle.jiff_core.proofs.DateLemmas.{civil, cases_date, epoch_day-lt, epoch_day_injective, epoch_day_same, days_from_civil-day, days_from_civil-max, days_from_civil-next_month, days_from_civil-next_year}
use Rattle.jiff_core.proofs.MarchLemmas.{day_count-early}
use Rattle.jiff_core.proofs.CalendarLemmas.{days_from_civil-day_count, day_count-lt_year, days_in_month_bounds}
use Rattle.lq_base.specs.Moment.{Day, day_after}

day_count-year_1 : day_count (pos 1) 1 1 ≡ 3_652_791
day_count-year_1 = day_count-early _ 10000 1 1 refl (omega arith) (omega arith) (omega arith)

days_from_civil-year_1 : days_from_civil (pos 1) 1 1 ≡ neg_ℤ (pos 719_162)
days_from_civil-year_1 = omega (arith, signed_arith, days_from_civil-day_count, day_count-year_1)

-- a day of the year 1 or later that the calendar has, by its number from 0001-01-01
pub record IsDay (d : Day) (count : ℕ) : Type 0 where
  pub year : 1 ≤ d.year
  pub month : IsInRange 1 12 d.month
  pub day : IsInRange 1 (days_in_month (pos d.year) d.month) d.day
  pub number : days_from_civil (pos d.year) d.month d.day +ℤ pos 719_162 ≡ pos count

december : (m : ℕ) (y : ℤ) → m ≡ 12 → days_in_month y m ≡ 31
december m y e = rw e refl

next_by : (d : Day) (count : ℕ) (a b : Bool) → nat_lt d.day (days_in_month (pos d.year) d.month) ≡ a → nat_lt d.month 12 ≡ b → IsDay d count
    → IsDay (cond a (record { year = d.year; month = d.month; day = d.day + 1 }) (cond b (record { year = d.year; month = d.month + 1; day = 1 }) (record { year = d.year + 1; month = 1; day = 1 }))) (suc count)
next_by d count true b e f h =
    let more : d.day < days_in_month (pos d.year) d.month = search (rules, tests) in
    let step = days_from_civil-day (pos d.year) d.month d.day (d.day + 1) (omega (arith, h.day)) (omega arith) in
    record { year = h.year; month = h.month; day = (omega arith, omega arith); number = omega (arith, signed_arith, step, h.number) }
next_by d count false true e f h =
    let last : days_in_month (pos d.year) d.month ≤ d.day = search (rules, tests) in
    let more : d.month < 12 = search (rules, tests) in
    let at : d.day ≡ days_in_month (pos d.year) d.month = omega (arith, h.day) in
    let step = days_from_civil-next_month (pos d.year) d.month d.day (omega (arith, h.month)) at in
    let long = days_in_month_bounds (pos d.year) (d.month + 1) in
    record { year = h.year; month = (omega arith, omega arith); day = (omega arith, omega (arith, long)); number = omega (arith, signed_arith, step, h.number) }
next_by d count false false e f h =
    let last : days_in_month (pos d.year) d.month ≤ d.day = search (rules, tests) in
    let end : 12 ≤ d.month = search (rules, tests) in
    let month : d.month ≡ 12 = omega (arith, h.month) in
    let day : d.day ≡ 31 = omega (arith, h.day, december d.month (pos d.year) month) in
    let step = days_from_civil-next_year (pos d.year) (pos (d.year + 1)) (omega (arith, signed_arith)) refl in
    let here : days_from_civil (pos d.year) 12 31 +ℤ pos 719_162 ≡ pos count = rw (← month, ← day) h.number in
    record { year = omega arith; month = (omega arith, omega arith); day = (omega arith, omega arith); number = omega (arith, signed_arith, step, here) }

pub day_after_is : (count : ℕ) → IsDay (day_after count) count
unfolding day_after
day_after_is zero = record { year = omega arith; month = (omega arith, omega arith); day = (omega arith, omega arith); number = omega (arith, signed_arith, days_from_civil-year_1) }
day_after_is (suc count) = next_by (day_after count) count _ _ refl refl (day_after_is count)

-- the last is 9999-12-31
pub day_after-year_le : (count : ℕ) → count ≤ 3_652_058 → (day_after count).year ≤ 9999
day_after-year_le count h =
    let is = day_after_is count in
    let a = day_after count in
    by_lt_z (pos 9999) (pos a.year)
    (λ lt. absurd (omega (arith, signed_arith, is.number, days_from_civil-max, days_from_civil-day_count, day_count-lt_year (pos 9999) 12 31 (pos a.year) a.month a.day (search rules) is.day.0 lt)))
    (λ ge. omega (arith, signed_arith))

-- the date with this number is that day
pub date_is_day : (d : Date) (count : ℕ) → epoch_day d +ℤ pos 719_162 ≡ pos count → (d.year ≡ pos (day_after count).year) × (d.month ≡ (day_after count).month) × (d.day ≡ (day_after count).day)
date_is_day d count e =
    let is = day_after_is count in
    let a = day_after count in
    let within : a.year ≤ 9999 =
    by_lt_z d.year (pos a.year)
    (λ lt. absurd (omega (arith, signed_arith, e, is.number, days_from_civil-day_count, day_count-lt_year d.year d.month d.day (pos a.year) a.month a.day (civil d) is.day.0 lt)))
    (λ ge. omega (arith, signed_arith, d.year_in)) in
    let date : Date = record { year = pos a.year; month = a.month; day = a.day; year_in = (omega (arith, signed_arith), omega (arith, signed_arith)); month_in = is.month; day_in = is.day } in
    epoch_day_injective d date (omega (arith, signed_arith, e, is.number))

first : Date
first = record { year = pos 1; month = 1; day = 1; year_in = search rules; month_in = search rules; day_in = search rules }

-- no day of the year 1 or later comes before 0001-01-01
pub first_day_le : (d : Date) → pos 1 ≤ℤ d.year → neg_ℤ (pos 719_162) ≤ℤ epoch_day d
unfolding first
first_day_le d h =
    elim (cases_date first d) [
      | inl later ↦ omega (arith, signed_arith, days_from_civil-year_1, epoch_day-lt first d later)
      | inr (inl (inl year)) ↦ absurd (omega (arith, signed_arith, year, h))
      | inr (inl (inr (year, inl month))) ↦ absurd (omega (arith, month, d.month_in))
      | inr (inl (inr (year, inr day))) ↦ absurd (omega (arith, day.1, d.day_in))
      | inr (inr same) ↦ omega (arith, signed_arith, days_from_civil-year_1, epoch_day_same first d same.0 same.1 same.2)
    ]
