-- The moment that is read is the one that the text spells.
use Rattle.std.proofs.Common.{◌≡◌, ◌⊎◌, inl, inr, ℕ, zero, suc, ◌+◌, ◌*◌, ◌/◌, ◌%◌, ◌^◌, ◌<◌, ◌≤◌, Bool, true, false, ◌&&◌, ◌||◌, eqb, nat_lt, nat_le, ℤ, pos, neg_ℤ, ◌+ℤ◌, ◌*ℤ◌, unsigned_abs, List, [], ◌∷◌, ◌++◌, length, take, drop, get_or, codes, Option, Some, None, option_and_then, option_map, refl, ap, ap₂, ◌∙◌, sym, subst, arith, rules, tests}
use Rattle.std.specs.Char.{is_ascii_digit}
use Rattle.std.specs.Int.{is_in_range, IsInRange}
use Rattle.std.specs.List.{list_all}
use Rattle.std.specs.Str.Parse.{digits_value}
use Rattle.std.proofs.lemmas.Bool.{and_parts, eqb-true, leb-true, ltb-true, cond-false}
use Rattle.std.proofs.lemmas.Option.{cond_some, option_and_then_some, same_Some, none-some}
use Rattle.std.proofs.lemmas.List.{length-take-le, length-drop}
use Rattle.jiff_core.specs.declared.civil.date.Date.{Date}
use Rattle.jiff_core.specs.Calendar.{days_in_month, days_from_civil}
use Rattle.jiff_core.proofs.DateLemmas.{epoch_day_range}
use Rattle.jiff_core.proofs.SignedLemmas.{signed_arith}
use Rattle.lq_base.specs.Moment.{IsMoment, Day, day_after, day_text, clock_text, text_since, has_marks, has_day_marks, has_clock_marks, digits_at, day_number, day_of, clock_number, clock_of, moment_by_parts, moment_of, moment_text}
use Rattle.lq_base.specs.Number.{last_digits}
use Rattle.lq_base.specs.Spells.{without_t, SpellsMoment}
use Rattle.lq_base.proofs.DayLemmas.{date_is_day, first_day_le}
use Rattle.lq_base.proofs.DigitLemmas.{last_digits-written, digits-bound}
use Rattle.lq_base.proofs.NumberLemmas.{both_some}
use Rattle.lq_base.proofs.MomentLemmas.{abs-nonnegative, moment_of-moment_text}

-- a property of each list of so many bytes, byte by byte
abbrev OfBytes : ℕ → (List ℕ → Type 0) → Type 0
OfBytes zero P = P []
OfBytes (suc count) P = (b : ℕ) → OfBytes count (λ bs. P (b ∷ bs))

by_bytes : (count : ℕ) (P : List ℕ → Type 0) → OfBytes count P → (text : List ℕ) → length text ≡ count → P text
by_bytes zero P h [] e = h
by_bytes zero P h (b ∷ bs) e = absurd (omega arith)
by_bytes (suc count) P h [] e = absurd (omega arith)
by_bytes (suc count) P h (b ∷ bs) e = by_bytes count (λ bs. P (b ∷ bs)) (h b) bs (omega arith)

-- a text with what it leaves out
abbrev filled : List ℕ → List ℕ
filled text = without_t text ++ drop (length text) (codes "YYYY-MM-DD 00:00:00.000")

abbrev ReadsAlike : List ℕ → Type 0
ReadsAlike text = moment_by_parts text ≡ moment_by_parts (filled text)

-- the same with the `T` left as it is
abbrev ReadsAsLong : List ℕ → Type 0
ReadsAsLong text = moment_by_parts text ≡ moment_by_parts (text ++ drop (length text) (codes "YYYY-MM-DD 00:00:00.000"))

t_or_not : (P : ℕ → Type 0) (b : ℕ) → P 84 → (eqb b 84 ≡ false → P b) → P b
t_or_not P b t other = by (eqb b 84) refl
  where
    by : (is : Bool) → eqb b 84 ≡ is → P b
    by true e = subst P (sym (eqb-true b 84 e)) t
    by false e = other e

without_t-none : (text : List ℕ) → eqb (get_or text 10 0) 84 ≡ false → ReadsAsLong text → ReadsAlike text
without_t-none text e long = long ∙ ap (λ t. moment_by_parts (t ++ drop (length text) (codes "YYYY-MM-DD 00:00:00.000"))) (sym (cond-false _ _ _ e))

alike_10 : (text : List ℕ) → length text ≡ 10 → ReadsAlike text
alike_10 = by_bytes 10 ReadsAlike (λ a b c d e f g h i j. refl)

alike_19 : (text : List ℕ) → length text ≡ 19 → ReadsAlike text
alike_19 = by_bytes 19 ReadsAlike (λ a b c d e f g h i j t k l m n o p q r. t_or_not (λ t. ReadsAlike (a ∷ b ∷ c ∷ d ∷ e ∷ f ∷ g ∷ h ∷ i ∷ j ∷ t ∷ k ∷ l ∷ m ∷ n ∷ o ∷ p ∷ q ∷ r ∷ [])) t refl (λ no_t. without_t-none (a ∷ b ∷ c ∷ d ∷ e ∷ f ∷ g ∷ h ∷ i ∷ j ∷ t ∷ k ∷ l ∷ m ∷ n ∷ o ∷ p ∷ q ∷ r ∷ []) no_t refl))

alike_23 : (text : List ℕ) → length text ≡ 23 → ReadsAlike text
alike_23 = by_bytes 23 ReadsAlike (λ a b c d e f g h i j t k l m n o p q r s u v w. t_or_not (λ t. ReadsAlike (a ∷ b ∷ c ∷ d ∷ e ∷ f ∷ g ∷ h ∷ i ∷ j ∷ t ∷ k ∷ l ∷ m ∷ n ∷ o ∷ p ∷ q ∷ r ∷ s ∷ u ∷ v ∷ w ∷ [])) t refl (λ no_t. without_t-none (a ∷ b ∷ c ∷ d ∷ e ∷ f ∷ g ∷ h ∷ i ∷ j ∷ t ∷ k ∷ l ∷ m ∷ n ∷ o ∷ p ∷ q ∷ r ∷ s ∷ u ∷ v ∷ w ∷ []) no_t refl))

alike : (text : List ℕ) → (length text ≡ 10) ⊎ ((length text ≡ 19) ⊎ (length text ≡ 23)) → ReadsAlike text
alike text (inl h) = alike_10 text h
alike text (inr (inl h)) = alike_19 text h
alike text (inr (inr h)) = alike_23 text h

pub spells-moment_of : (text : List ℕ) (ms : ℤ) → SpellsMoment text ms → moment_of text ≡ Some ms
unfolding moment_of
spells-moment_of text ms h = alike text h.parts ∙ ap moment_of h.is ∙ moment_of-moment_text ms h.is_moment

-- the digits of a part write its number
part : (start count : ℕ) (text : List ℕ) (n : ℕ) → start + count ≤ length text → digits_at start count text ≡ Some n → (last_digits count n ≡ take count (drop start text)) × (n < 10 ^ count)
part start count text n within e =
    let digits = take count (drop start text) in
    let parts = cond_some (list_all is_ascii_digit digits) (digits_value 10 digits) n e in
    let long : length digits ≡ count = length-take-le count (drop start text) (omega (arith, length-drop start text)) in
    (rw (← parts.1) (last_digits-written count digits long parts.0), rw (← parts.1) (subst (λ k. digits_value 10 digits < 10 ^ k) long (digits-bound digits parts.0)))

-- the day of a number
record IsDayNumber (y m d : ℕ) (number : ℤ) : Type 0 where
  count : ℕ
  few : count ≤ 3_652_058
  is : number +ℤ pos 719_162 ≡ pos count
  same : (y ≡ (day_after count).year) × (m ≡ (day_after count).month) × (d ≡ (day_after count).day)

day_number-gives : (y m d : ℕ) (number : ℤ) → day_number y m d ≡ Some number → IsDayNumber y m d number
day_number-gives y m d number e =
    let parts = cond_some ((is_in_range 1 9999 y && is_in_range 1 12 m) && is_in_range 1 (days_in_month (pos y) m) d) (days_from_civil (pos y) m d) number e in
    let tests_ = and_parts (is_in_range 1 9999 y && is_in_range 1 12 m) (is_in_range 1 (days_in_month (pos y) m) d) parts.0 in
    let both = and_parts (is_in_range 1 9999 y) (is_in_range 1 12 m) tests_.0 in
    let year = range 1 9999 y both.0 in
    let month = range 1 12 m both.1 in
    let day = range 1 (days_in_month (pos y) m) d tests_.1 in
    let date : Date = record { year = pos y; month = m; day = d; year_in = (omega (arith, signed_arith, year), omega (arith, signed_arith, year)); month_in = month; day_in = day } in
    let least = first_day_le date (omega (arith, signed_arith, year)) in
    let most = (epoch_day_range date).1 in
    let count = unsigned_abs (number +ℤ pos 719_162) in
    let is : pos count ≡ number +ℤ pos 719_162 = abs-nonnegative (number +ℤ pos 719_162) (omega (arith, signed_arith, least, parts.1)) in
    let same = date_is_day date count (omega (arith, signed_arith, is, parts.1)) in
    record { count = count; few = omega (arith, signed_arith, is, most, parts.1); is = sym is; same = (omega (arith, signed_arith, same.0), same.1, same.2) }
  where
    range : (low high n : ℕ) → is_in_range low high n ≡ true → IsInRange low high n
    range low high n h = let parts = and_parts (nat_le low n) (nat_le n high) h in (leb-true low n parts.0, leb-true n high parts.1)

record IsClock (h n s f clock : ℕ) : Type 0 where
  small : clock < 86_400_000
  hour : h ≡ clock / 3_600_000
  minute : n ≡ clock / 60_000 % 60
  second : s ≡ clock / 1000 % 60
  milli : f ≡ clock % 1000

clock_number-gives : (h n s f clock : ℕ) → f < 1000 → clock_number h n s f ≡ Some clock → IsClock h n s f clock
clock_number-gives h n s f clock small e =
    let parts = cond_some (nat_lt h 24 && (nat_lt n 60 && nat_lt s 60)) (((h * 60 + n) * 60 + s) * 1000 + f) clock e in
    let both = and_parts (nat_lt h 24) (nat_lt n 60 && nat_lt s 60) parts.0 in
    let more = and_parts (nat_lt n 60) (nat_lt s 60) both.1 in
    let hour = ltb-true h 24 both.0 in
    let minute = ltb-true n 60 more.0 in
    let second = ltb-true s 60 more.1 in
    subst (IsClock h n s f) parts.1 (record { small = omega arith; hour = omega arith; minute = omega arith; second = omega arith; milli = omega arith })

-- the parts of a text of 23 bytes in a row
abbrev in_parts : List ℕ → List ℕ
in_parts text =
    (take 4 (drop 0 text) ++ 45 ∷ take 2 (drop 5 text) ++ 45 ∷ take 2 (drop 8 text))
    ++ 32 ∷ (take 2 (drop 11 text) ++ 58 ∷ take 2 (drop 14 text) ++ 58 ∷ take 2 (drop 17 text) ++ 46 ∷ take 3 (drop 20 text))

abbrev HasMarks : List ℕ → Type 0
HasMarks text = (get_or text 4 0 ≡ 45) × (get_or text 7 0 ≡ 45) × (get_or text 10 0 ≡ 32) × (get_or text 13 0 ≡ 58) × (get_or text 16 0 ≡ 58) × (get_or text 19 0 ≡ 46)

parts_are : (text : List ℕ) → length text ≡ 23 → HasMarks text → in_parts text ≡ text
parts_are = by_bytes 23 (λ text. HasMarks text → in_parts text ≡ text) (λ a b c d e f g h i j k l m n o p q r s t u v w marks. rw (marks.0, marks.1, marks.2, marks.3, marks.4, marks.5) refl)

or_other : (a b : Bool) → a ≡ false → (a || b) ≡ true → b ≡ true
or_other true b e h = absurd (search (rules, tests))
or_other false b e h = h

marks_of : (text : List ℕ) → length text ≡ 23 → get_or text 10 0 ≡ 32 → has_marks text ≡ true → HasMarks text
marks_of text long blank e =
    let both = and_parts (has_day_marks text) _ e in
    let day = and_parts (eqb (get_or text 4 0) 45) (eqb (get_or text 7 0) 45) both.0 in
    let more = or_other (eqb (length text) 10) _ (ap (λ n. eqb n 10) long) both.1 in
    let clock = and_parts (has_clock_marks text) _ more in
    let colons = (and_parts (eqb (get_or text 10 0) 32 || eqb (get_or text 10 0) 84) (eqb (get_or text 13 0) 58 && eqb (get_or text 16 0) 58) clock.0).1 in
    let two = and_parts (eqb (get_or text 13 0) 58) (eqb (get_or text 16 0) 58) colons in
    let end = and_parts (eqb (length text) 23) (eqb (get_or text 19 0) 46) (or_other (eqb (length text) 19) _ (ap (λ n. eqb n 19) long) clock.1) in
    (eqb-true _ _ day.0, eqb-true _ _ day.1, blank, eqb-true _ _ two.0, eqb-true _ _ two.1, eqb-true _ _ end.1)

-- so many days and milliseconds, as a moment and as its text
abbrev moment_at : ℕ → ℕ → ℤ
moment_at count clock = ((pos count +ℤ neg_ℤ (pos 719_162)) *ℤ pos 86_400_000) +ℤ pos clock

moment_at_is : (count clock : ℕ) (number : ℤ) → number +ℤ pos 719_162 ≡ pos count → (number *ℤ pos 86_400_000) +ℤ pos clock ≡ moment_at count clock
moment_at_is count clock number is =
    let day : number ≡ pos count +ℤ neg_ℤ (pos 719_162) = omega (arith, signed_arith, is) in
    ap (λ n. (n *ℤ pos 86_400_000) +ℤ pos clock) day

moment_at-IsMoment : (count clock : ℕ) → count ≤ 3_652_058 → clock < 86_400_000 → IsMoment (moment_at count clock)
moment_at-IsMoment count clock few small = (omega (arith, signed_arith), omega (arith, signed_arith))

moment_at-text : (count clock : ℕ) → clock < 86_400_000 → moment_text (moment_at count clock) ≡ day_text (day_after count) ++ 32 ∷ clock_text clock
unfolding moment_text
moment_at-text count clock small =
    let since : moment_at count clock +ℤ pos 62_135_596_800_000 ≡ pos (count * 86_400_000 + clock) = omega (arith, signed_arith) in
    let day : (count * 86_400_000 + clock) / 86_400_000 ≡ count = omega arith in
    let rest : (count * 86_400_000 + clock) % 86_400_000 ≡ clock = omega arith in
    ap (λ z. text_since (unsigned_abs z)) since ∙ ap₂ (λ d c. day_text (day_after d) ++ 32 ∷ clock_text c) day rest

day_parts : (d : Day) (y m n : List ℕ) → last_digits 4 d.year ≡ y → last_digits 2 d.month ≡ m → last_digits 2 d.day ≡ n → day_text d ≡ y ++ 45 ∷ m ++ 45 ∷ n
day_parts d y m n e f g =
    ap (λ y. y ++ 45 ∷ last_digits 2 d.month ++ 45 ∷ last_digits 2 d.day) e ∙ ap (λ m. y ++ 45 ∷ m ++ 45 ∷ last_digits 2 d.day) f ∙ ap (λ n. y ++ 45 ∷ m ++ 45 ∷ n) g

clock_parts : (clock : ℕ) (h n s f : List ℕ) → last_digits 2 (clock / 3_600_000) ≡ h → last_digits 2 (clock / 60_000 % 60) ≡ n → last_digits 2 (clock / 1000 % 60) ≡ s → last_digits 3 (clock % 1000) ≡ f → clock_text clock ≡ h ++ 58 ∷ n ++ 58 ∷ s ++ 46 ∷ f
clock_parts clock h n s f a b c d =
    ap (λ h. h ++ 58 ∷ last_digits 2 (clock / 60_000 % 60) ++ 58 ∷ last_digits 2 (clock / 1000 % 60) ++ 46 ∷ last_digits 3 (clock % 1000)) a
    ∙ ap (λ n. h ++ 58 ∷ n ++ 58 ∷ last_digits 2 (clock / 1000 % 60) ++ 46 ∷ last_digits 3 (clock % 1000)) b
    ∙ ap (λ s. h ++ 58 ∷ n ++ 58 ∷ s ++ 46 ∷ last_digits 3 (clock % 1000)) c
    ∙ ap (λ f. h ++ 58 ∷ n ++ 58 ∷ s ++ 46 ∷ f) d

record LongDay (text : List ℕ) (number : ℤ) : Type 0 where
  count : ℕ
  few : count ≤ 3_652_058
  is : number +ℤ pos 719_162 ≡ pos count
  written : day_text (day_after count) ≡ take 4 (drop 0 text) ++ 45 ∷ take 2 (drop 5 text) ++ 45 ∷ take 2 (drop 8 text)

day_of-gives : (text : List ℕ) (number : ℤ) → length text ≡ 23 → day_of text ≡ Some number → LongDay text number
day_of-gives text number long e =
    option_and_then_some (λ y. option_and_then (λ m. option_and_then (λ d. day_number y m d) (digits_at 8 2 text)) (digits_at 5 2 text)) (digits_at 0 4 text) number e
    (λ y ey more. option_and_then_some (λ m. option_and_then (λ d. day_number y m d) (digits_at 8 2 text)) (digits_at 5 2 text) number more
    (λ m em last. option_and_then_some (λ d. day_number y m d) (digits_at 8 2 text) number last
    (λ d ed is. by y m d (day_number-gives y m d number is) (part 0 4 text y (omega (arith, long)) ey).0 (part 5 2 text m (omega (arith, long)) em).0 (part 8 2 text d (omega (arith, long)) ed).0)))
  where
    by : (y m d : ℕ) → IsDayNumber y m d number → last_digits 4 y ≡ take 4 (drop 0 text) → last_digits 2 m ≡ take 2 (drop 5 text) → last_digits 2 d ≡ take 2 (drop 8 text) → LongDay text number
    by y m d day py pm pd = record {
      count = day.count;
      few = day.few;
      is = day.is;
      written = day_parts (day_after day.count) _ _ _ (ap (last_digits 4) (sym day.same.0) ∙ py) (ap (last_digits 2) (sym day.same.1) ∙ pm) (ap (last_digits 2) (sym day.same.2) ∙ pd);
    }

record LongClock (text : List ℕ) (clock : ℕ) : Type 0 where
  small : clock < 86_400_000
  written : clock_text clock ≡ take 2 (drop 11 text) ++ 58 ∷ take 2 (drop 14 text) ++ 58 ∷ take 2 (drop 17 text) ++ 46 ∷ take 3 (drop 20 text)

clock_of-gives : (text : List ℕ) (clock : ℕ) → length text ≡ 23 → clock_of text ≡ Some clock → LongClock text clock
clock_of-gives text clock long e =
    option_and_then_some (λ h. option_and_then (λ n. option_and_then (λ s. option_and_then (λ f. clock_number h n s f) (digits_at 20 3 text)) (digits_at 17 2 text)) (digits_at 14 2 text)) (digits_at 11 2 text) clock e
    (λ h eh more. option_and_then_some (λ n. option_and_then (λ s. option_and_then (λ f. clock_number h n s f) (digits_at 20 3 text)) (digits_at 17 2 text)) (digits_at 14 2 text) clock more
    (λ n en later. option_and_then_some (λ s. option_and_then (λ f. clock_number h n s f) (digits_at 20 3 text)) (digits_at 17 2 text) clock later
    (λ s es last. option_and_then_some (λ f. clock_number h n s f) (digits_at 20 3 text) clock last
    (λ f ef is. by h n s f is (part 11 2 text h (omega (arith, long)) eh).0 (part 14 2 text n (omega (arith, long)) en).0 (part 17 2 text s (omega (arith, long)) es).0 (part 20 3 text f (omega (arith, long)) ef)))))
  where
    by : (h n s f : ℕ) → clock_number h n s f ≡ Some clock → last_digits 2 h ≡ take 2 (drop 11 text) → last_digits 2 n ≡ take 2 (drop 14 text) → last_digits 2 s ≡ take 2 (drop 17 text) → (last_digits 3 f ≡ take 3 (drop 20 text)) × (f < 10 ^ 3) → LongClock text clock
    by h n s f is ph pn ps pf =
        let time = clock_number-gives h n s f clock (omega (arith, pf.1)) is in
        record { small = time.small; written = clock_parts clock _ _ _ _ (ap (last_digits 2) (sym time.hour) ∙ ph) (ap (last_digits 2) (sym time.minute) ∙ pn) (ap (last_digits 2) (sym time.second) ∙ ps) (ap (last_digits 3) (sym time.milli) ∙ pf.0) }

map_some : {A B P : Type 0} (f : A → B) (o : Option A) (y : B) → option_map f o ≡ Some y → ((x : A) → o ≡ Some x → f x ≡ y → P) → P
map_some f None y e k = absurd (none-some y e)
map_some f (Some x) y e k = k x refl (same_Some _ _ e)

-- a text of 23 bytes that is read is the moment's text
long_is : (text : List ℕ) (ms : ℤ) → length text ≡ 23 → get_or text 10 0 ≡ 32 → moment_by_parts text ≡ Some ms → IsMoment ms × (text ≡ moment_text ms)
long_is text ms long blank e =
    let parts = both_some (has_marks text) (option_and_then (λ day. option_map (λ clock. (day *ℤ pos 86_400_000) +ℤ pos clock) (clock_of text)) (day_of text)) ms e in
    option_and_then_some (λ day. option_map (λ clock. (day *ℤ pos 86_400_000) +ℤ pos clock) (clock_of text)) (day_of text) ms parts.1
    (λ number ed more. map_some (λ clock. (number *ℤ pos 86_400_000) +ℤ pos clock) (clock_of text) ms more
    (λ clock ec is. by number clock (day_of-gives text number long ed) (clock_of-gives text clock long ec) is (parts_are text long (marks_of text long blank parts.0))))
  where
    by : (number : ℤ) (clock : ℕ) → LongDay text number → LongClock text clock → (number *ℤ pos 86_400_000) +ℤ pos clock ≡ ms → in_parts text ≡ text → IsMoment ms × (text ≡ moment_text ms)
    by number clock day time is whole =
        subst (λ z. IsMoment z × (text ≡ moment_text z)) (sym (moment_at_is day.count clock number day.is) ∙ is)
        (moment_at-IsMoment day.count clock day.few time.small, sym whole ∙ sym (ap₂ (λ d c. d ++ 32 ∷ c) day.written time.written) ∙ sym (moment_at-text day.count clock time.small))

-- what is read has one of the three lengths
lengths : (text : List ℕ) → has_marks text ≡ true → (length text ≡ 10) ⊎ ((length text ≡ 19) ⊎ (length text ≡ 23))
lengths text e = by (eqb (length text) 10) refl (and_parts (has_day_marks text) _ e).1
  where
    longer : (clock : Bool) (nineteen : Bool) → eqb (length text) 19 ≡ nineteen → (clock && (nineteen || (eqb (length text) 23 && eqb (get_or text 19 0) 46))) ≡ true → (length text ≡ 10) ⊎ ((length text ≡ 19) ⊎ (length text ≡ 23))
    longer clock true f h = inr (inl (eqb-true _ _ f))
    longer clock false f h = inr (inr (eqb-true _ _ (and_parts (eqb (length text) 23) (eqb (get_or text 19 0) 46) (and_parts clock _ h).1).0))

    by : (ten : Bool) → eqb (length text) 10 ≡ ten → (ten || (has_clock_marks text && (eqb (length text) 19 || (eqb (length text) 23 && eqb (get_or text 19 0) 46)))) ≡ true → (length text ≡ 10) ⊎ ((length text ≡ 19) ⊎ (length text ≡ 23))
    by true f h = inl (eqb-true _ _ f)
    by false f h = longer (has_clock_marks text) (eqb (length text) 19) refl h

-- with what it leaves out it has 23 bytes, and a blank before its time of day
abbrev FillsUp : List ℕ → Type 0
FillsUp text = (length (filled text) ≡ 23) × (get_or (filled text) 10 0 ≡ 32)

fills_10 : (text : List ℕ) → length text ≡ 10 → FillsUp text
fills_10 = by_bytes 10 FillsUp (λ a b c d e f g h i j. (refl, refl))

abbrev BlankOrT : List ℕ → Type 0
BlankOrT text = (eqb (get_or text 10 0) 32 || eqb (get_or text 10 0) 84) ≡ true

fills-none : (text : List ℕ) → eqb (get_or text 10 0) 84 ≡ false → length (text ++ drop (length text) (codes "YYYY-MM-DD 00:00:00.000")) ≡ 23 → get_or (text ++ drop (length text) (codes "YYYY-MM-DD 00:00:00.000")) 10 0 ≡ get_or text 10 0 → BlankOrT text → FillsUp text
fills-none text no_t long same h =
    let plain : without_t text ≡ text = cond-false _ _ _ no_t in
    let blank : get_or text 10 0 ≡ 32 = eqb-true _ _ (or_left_of _ _ no_t h) in
    (ap (λ t. length (t ++ drop (length text) (codes "YYYY-MM-DD 00:00:00.000"))) plain ∙ long, ap (λ t. get_or (t ++ drop (length text) (codes "YYYY-MM-DD 00:00:00.000")) 10 0) plain ∙ same ∙ blank)
  where
    or_left_of : (a b : Bool) → b ≡ false → (a || b) ≡ true → a ≡ true
    or_left_of true b e h = refl
    or_left_of false true e h = sym e
    or_left_of false false e h = h

fills_19 : (text : List ℕ) → length text ≡ 19 → BlankOrT text → FillsUp text
fills_19 = by_bytes 19 (λ text. BlankOrT text → FillsUp text) (λ a b c d e f g h i j t k l m n o p q r. t_or_not (λ t. BlankOrT (a ∷ b ∷ c ∷ d ∷ e ∷ f ∷ g ∷ h ∷ i ∷ j ∷ t ∷ k ∷ l ∷ m ∷ n ∷ o ∷ p ∷ q ∷ r ∷ []) → FillsUp (a ∷ b ∷ c ∷ d ∷ e ∷ f ∷ g ∷ h ∷ i ∷ j ∷ t ∷ k ∷ l ∷ m ∷ n ∷ o ∷ p ∷ q ∷ r ∷ [])) t (λ _. (refl, refl)) (λ no_t. fills-none (a ∷ b ∷ c ∷ d ∷ e ∷ f ∷ g ∷ h ∷ i ∷ j ∷ t ∷ k ∷ l ∷ m ∷ n ∷ o ∷ p ∷ q ∷ r ∷ []) no_t refl refl))

fills_23 : (text : List ℕ) → length text ≡ 23 → BlankOrT text → FillsUp text
fills_23 = by_bytes 23 (λ text. BlankOrT text → FillsUp text) (λ a b c d e f g h i j t k l m n o p q r s u v w. t_or_not (λ t. BlankOrT (a ∷ b ∷ c ∷ d ∷ e ∷ f ∷ g ∷ h ∷ i ∷ j ∷ t ∷ k ∷ l ∷ m ∷ n ∷ o ∷ p ∷ q ∷ r ∷ s ∷ u ∷ v ∷ w ∷ []) → FillsUp (a ∷ b ∷ c ∷ d ∷ e ∷ f ∷ g ∷ h ∷ i ∷ j ∷ t ∷ k ∷ l ∷ m ∷ n ∷ o ∷ p ∷ q ∷ r ∷ s ∷ u ∷ v ∷ w ∷ [])) t (λ _. (refl, refl)) (λ no_t. fills-none (a ∷ b ∷ c ∷ d ∷ e ∷ f ∷ g ∷ h ∷ i ∷ j ∷ t ∷ k ∷ l ∷ m ∷ n ∷ o ∷ p ∷ q ∷ r ∷ s ∷ u ∷ v ∷ w ∷ []) no_t refl refl))

blank_or_t : (text : List ℕ) (n : ℕ) → length text ≡ n → eqb n 10 ≡ false → has_marks text ≡ true → BlankOrT text
blank_or_t text n long more e =
    let rest = or_other (eqb (length text) 10) _ (ap (λ n. eqb n 10) long ∙ more) (and_parts (has_day_marks text) _ e).1 in
    (and_parts (eqb (get_or text 10 0) 32 || eqb (get_or text 10 0) 84) (eqb (get_or text 13 0) 58 && eqb (get_or text 16 0) 58) (and_parts (has_clock_marks text) _ rest).0).0

fills : (text : List ℕ) → has_marks text ≡ true → (length text ≡ 10) ⊎ ((length text ≡ 19) ⊎ (length text ≡ 23)) → FillsUp text
fills text e (inl h) = fills_10 text h
fills text e (inr (inl h)) = fills_19 text h (blank_or_t text 19 h refl e)
fills text e (inr (inr h)) = fills_23 text h (blank_or_t text 23 h refl e)

pub moment_of-spells : (text : List ℕ) (ms : ℤ) → moment_of text ≡ Some ms → SpellsMoment text ms
unfolding moment_of
moment_of-spells text ms e =
    let marks = (both_some (has_marks text) (option_and_then (λ day. option_map (λ clock. (day *ℤ pos 86_400_000) +ℤ pos clock) (clock_of text)) (day_of text)) ms e).0 in
    let parts = lengths text marks in
    let up = fills text marks parts in
    let is = long_is (filled text) ms up.0 up.1 (sym (alike text parts) ∙ e) in
    record { is_moment = is.0; parts = parts; is = is.1 }
