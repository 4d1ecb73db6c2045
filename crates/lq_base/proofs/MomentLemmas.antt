-- The text of a moment spells that moment.
use Rattle.std.proofs.Common.{◌≡◌, ℕ, ◌/◌, ◌%◌, ◌<◌, ◌≤◌, Bool, true, cond, ◌&&◌, nat_lt, ℤ, pos, negsuc, neg_ℤ, ◌+ℤ◌, ◌*ℤ◌, ◌≤ℤ◌, unsigned_abs, ◌∷◌, ◌++◌, Option, Some, None, option_and_then, option_map, refl, ap, ◌∙◌, arith, rules, tests}
use Rattle.std.specs.Int.{is_in_range, IsInRange}
use Rattle.jiff_core.specs.Calendar.{days_in_month}
use Rattle.jiff_core.proofs.CalendarLemmas.{days_in_month_bounds}
use Rattle.jiff_core.proofs.SignedLemmas.{signed_arith}
use Rattle.lq_base.specs.Moment.{IsMoment, Day, day_after, day_text, clock_text, has_marks, day_number, day_of, clock_number, clock_of, moment_by_parts, moment_of, moment_text}
use Rattle.lq_base.proofs.DayLemmas.{day_after_is, day_after-year_le}
use Rattle.lq_base.proofs.DigitLemmas.{read_digits-last_digits}

-- a first step that answers, and then the others
then_some : {A B : Type 0} (f : A → Option B) (o : Option A) (x : A) (y : Option B) → o ≡ Some x → f x ≡ y → option_and_then f o ≡ y
then_some f o x y e h = ap (option_and_then f) e ∙ h

some_where : {A : Type 0} (test : Bool) (x y : A) → test ≡ true → x ≡ y → cond test (Some x) None ≡ Some y
some_where test x y h e = rw (h, e) refl

and_true : (a b : Bool) → a ≡ true → b ≡ true → (a && b) ≡ true
and_true a b p q = rw (p, q) refl

in_range : (low high n : ℕ) → IsInRange low high n → is_in_range low high n ≡ true
in_range low high n h = search (rules, tests)

day_number-after : (count : ℕ) → count ≤ 3_652_058 → day_number (day_after count).year (day_after count).month (day_after count).day ≡ Some (pos count +ℤ neg_ℤ (pos 719_162))
day_number-after count h =
    let d = day_after count in
    let is = day_after_is count in
    let year : is_in_range 1 9999 d.year ≡ true = in_range 1 9999 d.year (is.year, day_after-year_le count h) in
    let month : is_in_range 1 12 d.month ≡ true = in_range 1 12 d.month is.month in
    let day : is_in_range 1 (days_in_month (pos d.year) d.month) d.day ≡ true = in_range 1 (days_in_month (pos d.year) d.month) d.day is.day in
    some_where _ _ _ (and_true _ _ (and_true _ _ year month) day) (omega (arith, signed_arith, is.number))

-- the parts of a text of 23 bytes, each from its digits
day_of-text : (d : Day) (clock : ℕ) (number : ℤ) → d.year < 10000 → d.month < 100 → d.day < 100 → day_number d.year d.month d.day ≡ Some number → day_of (day_text d ++ 32 ∷ clock_text clock) ≡ Some number
day_of-text d clock number y m n e =
    then_some _ _ d.year _ (read_digits-last_digits 4 d.year y)
    (then_some _ _ d.month _ (read_digits-last_digits 2 d.month m)
    (then_some _ _ d.day _ (read_digits-last_digits 2 d.day n) e))

clock_number-parts : (clock : ℕ) → clock < 86_400_000 → clock_number (clock / 3_600_000) (clock / 60_000 % 60) (clock / 1000 % 60) (clock % 1000) ≡ Some clock
clock_number-parts clock h =
    let hour : nat_lt (clock / 3_600_000) 24 ≡ true = search (rules, tests) in
    let minute : nat_lt (clock / 60_000 % 60) 60 ≡ true = search (rules, tests) in
    let second : nat_lt (clock / 1000 % 60) 60 ≡ true = search (rules, tests) in
    some_where _ _ _ (and_true _ _ hour (and_true _ _ minute second)) (omega arith)

clock_of-text : (d : Day) (clock : ℕ) → clock < 86_400_000 → clock_of (day_text d ++ 32 ∷ clock_text clock) ≡ Some clock
clock_of-text d clock h =
    then_some _ _ (clock / 3_600_000) _ (read_digits-last_digits 2 (clock / 3_600_000) (omega arith))
    (then_some _ _ (clock / 60_000 % 60) _ (read_digits-last_digits 2 (clock / 60_000 % 60) (omega arith))
    (then_some _ _ (clock / 1000 % 60) _ (read_digits-last_digits 2 (clock / 1000 % 60) (omega arith))
    (then_some _ _ (clock % 1000) _ (read_digits-last_digits 3 (clock % 1000) (omega arith)) (clock_number-parts clock h))))

has_marks-text : (d : Day) (clock : ℕ) → has_marks (day_text d ++ 32 ∷ clock_text clock) ≡ true
has_marks-text d clock = refl

moment_by_parts-text : (d : Day) (clock : ℕ) (number : ℤ) → day_of (day_text d ++ 32 ∷ clock_text clock) ≡ Some number → clock_of (day_text d ++ 32 ∷ clock_text clock) ≡ Some clock → moment_by_parts (day_text d ++ 32 ∷ clock_text clock) ≡ Some ((number *ℤ pos 86_400_000) +ℤ pos clock)
moment_by_parts-text d clock number first second =
    let text = day_text d ++ 32 ∷ clock_text clock in
    then_some (λ day. option_map (λ c. (day *ℤ pos 86_400_000) +ℤ pos c) (clock_of text)) (day_of text) number _ first
    (ap (option_map (λ c. (number *ℤ pos 86_400_000) +ℤ pos c)) second)

pub abs-nonnegative : (z : ℤ) → pos 0 ≤ℤ z → pos (unsigned_abs z) ≡ z
abs-nonnegative (pos n) h = refl
abs-nonnegative (negsuc n) h = absurd (omega (arith, signed_arith))

since_year_1 : (ms : ℤ) → IsMoment ms → pos (unsigned_abs (ms +ℤ pos 62_135_596_800_000)) ≡ ms +ℤ pos 62_135_596_800_000
since_year_1 ms h = abs-nonnegative (ms +ℤ pos 62_135_596_800_000) (omega (arith, signed_arith, h))

pub moment_of-moment_text : (ms : ℤ) → IsMoment ms → moment_of (moment_text ms) ≡ Some ms
unfolding moment_of moment_text
moment_of-moment_text ms h =
    let since = unsigned_abs (ms +ℤ pos 62_135_596_800_000) in
    let whole : pos since ≡ ms +ℤ pos 62_135_596_800_000 = since_year_1 ms h in
    let most : since < 315_537_897_600_000 = omega (arith, signed_arith, h) in
    let count = since / 86_400_000 in
    let clock = since % 86_400_000 in
    let d = day_after count in
    let is = day_after_is count in
    let few : count ≤ 3_652_058 = omega arith in
    let number : ℤ = pos count +ℤ neg_ℤ (pos 719_162) in
    let first = day_of-text d clock number (omega (arith, day_after-year_le count few)) (omega (arith, is.month)) (omega (arith, is.day, days_in_month_bounds (pos d.year) d.month)) (day_number-after count few) in
    let second = clock_of-text d clock (omega arith) in
    moment_by_parts-text d clock number first second ∙ ap Some (omega (arith, signed_arith, whole))
