-- What a literal becomes in a kind is a value of the kind.
use Rattle.std.proofs.Common.{◌≡◌, ℕ, ◌+◌, ◌*◌, ◌^◌, ◌<◌, ◌≤◌, Bool, true, false, cond, ◌&&◌, nat_lt, nat_le, refl, arith, tests, rules, ℤ, pos, neg_ℤ, ◌+ℤ◌, ◌*ℤ◌, ◌≤ℤ◌, List, [], ◌∷◌, length, take, drop, Option, Some, None, Result, Ok, Err, option_and_then, option_map, ap, subst, ◌⊎◌, inl, inr}
use Rattle.std.specs.Int.{is_in_range, IsInRange}
use Rattle.std.specs.Char.{is_ascii_digit, digit_value}
use Rattle.std.specs.List.{list_all}
use Rattle.std.specs.Str.Parse.{digits_value_after}
use Rattle.std.proofs.lemmas.Int.{ints}
use Rattle.std.proofs.lemmas.List.{length-take}
use Rattle.std.proofs.lemmas.Str.{digit_value_digit}
use Rattle.jiff_core.specs.declared.civil.date.Date.{Date}
use Rattle.jiff_core.specs.Calendar.{days_in_month}
use Rattle.jiff_core.proofs.SignedLemmas.{signed_arith}
use Rattle.jiff_core.proofs.DateLemmas.{epoch_day_range}
use Rattle.lq_base.specs.declared.kind.Kind.{Kind}
use Rattle.lq_base.specs.declared.kind.Kind.TheVariants as kind
use Rattle.lq_base.specs.declared.literal.Literal.{Literal}
use Rattle.lq_base.specs.declared.literal.Literal.TheVariants as literal
use Rattle.lq_base.specs.declared.reason.Reason.{Reason}
use Rattle.lq_base.specs.declared.reason.Reason.TheVariants.{TooWide}
use Rattle.lq_base.specs.declared.value.Value.{Value}
use Rattle.lq_base.specs.declared.value.Value.TheVariants as value
use Rattle.lq_base.specs.Moment.{IsMoment, is_moment, digits_at, has_marks, day_number, day_of, clock_number, clock_of, moment_of}
use Rattle.lq_base.specs.Number.{number_of}
use Rattle.lq_base.specs.Value.{is_value_of, said_by_number, said_by_text, said_in, has_width, within_width, into_kind}
use Rattle.lq_base.proofs.DayLemmas.{first_day_le}
use Rattle.lq_base.proofs.NumberLemmas.{both_true, next_digit_fits, ten_pow_le}

-- a test that was passed, and the value
pub passed : (test : Bool) (x y : Value) (r : Reason) → cond test (let ok : Result Value Reason = Ok x in ok) (Err r) ≡ Ok y → (test ≡ true) × (x ≡ y)
passed true x y r e = (refl, cc)
passed false x y r e = absurd cc

pub passed_some : {A : Type 0} (test : Bool) (x y : A) → cond test (Some x) None ≡ Some y → (test ≡ true) × (x ≡ y)
passed_some true x y e = (refl, cc)
passed_some false x y e = absurd cc

passed_either : {A : Type 0} (first second : Bool) (x y z : A) → cond first (Some x) (cond second (Some y) None) ≡ Some z → (x ≡ z) ⊎ (y ≡ z)
passed_either true second x y z e = inl cc
passed_either false second x y z e = inr (passed_some second y z e).1

pub and_then_some : {A B : Type 0} (f : A → Option B) (o : Option A) (y : B) → option_and_then f o ≡ Some y → (x : A) × (o ≡ Some x) × (f x ≡ Some y)
and_then_some f None y e = absurd cc
and_then_some f (Some x) y e = (x, refl, e)

-- digits write less than ten to the power of their number
pub digits_below : (v : ℕ) (ds : List ℕ) → list_all is_ascii_digit ds ≡ true → digits_value_after 10 v ds + 1 ≤ (v + 1) * 10 ^ length ds
digits_below v [] h = omega arith
digits_below v (d ∷ ds) h =
    let both = both_true (is_ascii_digit d) (list_all is_ascii_digit ds) h in
    let range = both_true (nat_le 48 d) (nat_le d 57) both.0 in
    let low : 48 ≤ d = search (rules, tests) in
    let high : d ≤ 57 = search (rules, tests) in
    let digit = digit_value_digit d (low, high) in
    let rest = digits_below (v * 10 + digit_value d) ds both.1 in
    let step = next_digit_fits v (digit_value d) (length ds) (omega arith) in
    omega (arith, rest, step)

digits_at-bound : (start count : ℕ) (text : List ℕ) (n : ℕ) → digits_at start count text ≡ Some n → n < 10 ^ count
digits_at-bound start count text n e =
    let is = passed_some (list_all is_ascii_digit (take count (drop start text))) _ n e in
    let below = digits_below 0 (take count (drop start text)) is.0 in
    let short : length (take count (drop start text)) ≤ count = omega (arith, length-take count (drop start text)) in
    omega (arith, below, is.1, ten_pow_le (length (take count (drop start text))) count short)

pub day_number-bound : (year month day : ℕ) (n : ℤ) → day_number year month day ≡ Some n → (neg_ℤ (pos 719_162) ≤ℤ n) × (n ≤ℤ pos 2_932_896)
day_number-bound year month day n e =
    let is = passed_some _ _ n e in
    let parts = both_true (is_in_range 1 9999 year && is_in_range 1 12 month) (is_in_range 1 (days_in_month (pos year) month) day) is.0 in
    let front = both_true (is_in_range 1 9999 year) (is_in_range 1 12 month) parts.0 in
    let y : IsInRange 1 9999 year = search (rules, tests) in
    let m : IsInRange 1 12 month = search (rules, tests) in
    let d : IsInRange 1 (days_in_month (pos year) month) day = search (rules, tests) in
    let date : Date = record { year = pos year; month = month; day = day; year_in = (omega (arith, signed_arith), omega (arith, signed_arith)); month_in = m; day_in = d } in
    (omega (arith, signed_arith, is.1, first_day_le date (omega (arith, signed_arith))), omega (arith, signed_arith, is.1, epoch_day_range date))

clock_number-bound : (hour minute second milli n : ℕ) → milli < 1000 → clock_number hour minute second milli ≡ Some n → n < 86_400_000
clock_number-bound hour minute second milli n small e =
    let is = passed_some _ _ n e in
    let parts = both_true (nat_lt hour 24) (nat_lt minute 60 && nat_lt second 60) is.0 in
    let back = both_true (nat_lt minute 60) (nat_lt second 60) parts.1 in
    let h : hour < 24 = search (rules, tests) in
    let m : minute < 60 = search (rules, tests) in
    let s : second < 60 = search (rules, tests) in
    omega (arith, is.1)

day_of-bound : (text : List ℕ) (n : ℤ) → day_of text ≡ Some n → (neg_ℤ (pos 719_162) ≤ℤ n) × (n ≤ℤ pos 2_932_896)
day_of-bound text n e =
    let year = and_then_some _ (digits_at 0 4 text) n e in
    let month = and_then_some _ (digits_at 5 2 text) n year.2 in
    let day = and_then_some _ (digits_at 8 2 text) n month.2 in
    day_number-bound year.0 month.0 day.0 n day.2

clock_of-bound : (text : List ℕ) (n : ℕ) → clock_of text ≡ Some n → n < 86_400_000
clock_of-bound text n e =
    let hour = and_then_some _ (digits_at 11 2 text) n e in
    let minute = and_then_some _ (digits_at 14 2 text) n hour.2 in
    let second = and_then_some _ (digits_at 17 2 text) n minute.2 in
    let milli = and_then_some _ (digits_at 20 3 text) n second.2 in
    clock_number-bound hour.0 minute.0 second.0 milli.0 n (digits_at-bound 20 3 text milli.0 milli.1) milli.2

map_some : {A B : Type 0} (f : A → B) (o : Option A) (y : B) → option_map f o ≡ Some y → (x : A) × (o ≡ Some x) × (f x ≡ y)
map_some f None y e = absurd cc
map_some f (Some x) y e = (x, refl, cc)

taken_some : {A : Type 0} (test : Bool) (o : Option A) (y : A) → cond test o None ≡ Some y → (test ≡ true) × (o ≡ Some y)
taken_some true o y e = (refl, e)
taken_some false o y e = absurd cc

-- what a text spells is a moment
pub moment_of-IsMoment : (text : List ℕ) (ms : ℤ) → moment_of text ≡ Some ms → IsMoment ms
unfolding moment_of
moment_of-IsMoment text ms e =
    let spelled = option_and_then (λ day. option_map (λ clock. (day *ℤ pos 86_400_000) +ℤ pos clock) (clock_of text)) (day_of text) in
    let marks = taken_some (has_marks text) spelled ms e in
    let day = and_then_some (λ day. option_map (λ clock. (day *ℤ pos 86_400_000) +ℤ pos clock) (clock_of text)) (day_of text) ms marks.1 in
    let clock = map_some (λ clock. (day.0 *ℤ pos 86_400_000) +ℤ pos clock) (clock_of text) ms day.2 in
    let date = day_of-bound text day.0 day.1 in
    let within = clock_of-bound text clock.0 clock.1 in
    (omega (arith, signed_arith, date, within, clock.2), omega (arith, signed_arith, date, within, clock.2))

is_moment-from_IsMoment : (ms : ℤ) → IsMoment ms → is_moment ms ≡ true
is_moment-from_IsMoment ms h = grind (arith, ints, tests)

-- what a literal says in a kind is a value of the kind, where the width is right

truth_is_value : (first second : Bool) (a b : Bool) (v : Value) → cond first (Some (value.Bool a)) (cond second (Some (value.Bool b)) None) ≡ Some v → is_value_of kind.Boolean v ≡ true
unfolding is_value_of
truth_is_value first second a b v e =
    elim (passed_either first second (value.Bool a) (value.Bool b) v e) [
      | inl is ↦ subst (λ w. is_value_of kind.Boolean w ≡ true) is refl
      | inr is ↦ subst (λ w. is_value_of kind.Boolean w ≡ true) is refl
    ]

fixed_is_value : (wide : Bool) (units more : ℤ) (scale places digits : ℕ) (v : Value) → Some (cond wide (value.Fixed units scale) (value.Fixed more places)) ≡ Some v
    → has_width (kind.Decimal digits places) v ≡ true → is_value_of (kind.Decimal digits places) v ≡ true
unfolding is_value_of
fixed_is_value true units more scale places digits v e h = let is : value.Fixed units scale ≡ v = cc in subst (λ w. has_width (kind.Decimal digits places) w ≡ true → is_value_of (kind.Decimal digits places) w ≡ true) is (λ width. width) h
fixed_is_value false units more scale places digits v e h = let is : value.Fixed more places ≡ v = cc in subst (λ w. has_width (kind.Decimal digits places) w ≡ true → is_value_of (kind.Decimal digits places) w ≡ true) is (λ width. width) h

int_is_value : (n : ℤ) (k : Kind) (v : Value) → said_by_number k (literal.Int n) ≡ Some v → has_width k v ≡ true → is_value_of k v ≡ true
unfolding is_value_of
int_is_value n kind.Int v e h = let is : value.Int n ≡ v = cc in subst (λ w. has_width kind.Int w ≡ true → is_value_of kind.Int w ≡ true) is (λ width. width) h
int_is_value n kind.BigInt v e h = let is : value.Int n ≡ v = cc in subst (λ w. has_width kind.BigInt w ≡ true → is_value_of kind.BigInt w ≡ true) is (λ width. width) h
int_is_value n kind.Boolean v e h = truth_is_value _ _ false true v e
int_is_value n (kind.Varchar most) v e h = absurd cc
int_is_value n kind.Text v e h = absurd cc
int_is_value n kind.Moment v e h = absurd cc
int_is_value n (kind.Decimal digits places) v e h = fixed_is_value _ n _ 0 places digits v e h

decimal_is_value : (units : ℤ) (scale : ℕ) (k : Kind) (v : Value) → said_by_number k (literal.Fixed units scale) ≡ Some v → has_width k v ≡ true → is_value_of k v ≡ true
decimal_is_value units scale kind.Int v e h = absurd cc
decimal_is_value units scale kind.BigInt v e h = absurd cc
decimal_is_value units scale kind.Boolean v e h = absurd cc
decimal_is_value units scale (kind.Varchar most) v e h = absurd cc
decimal_is_value units scale kind.Text v e h = absurd cc
decimal_is_value units scale kind.Moment v e h = absurd cc
decimal_is_value units scale (kind.Decimal digits places) v e h = fixed_is_value _ units _ scale places digits v e h

number_is_value : (number : Literal) (k : Kind) (v : Value) → said_by_number k number ≡ Some v → has_width k v ≡ true → is_value_of k v ≡ true
number_is_value literal.Null kind.Int v e h = absurd cc
number_is_value literal.Null kind.BigInt v e h = absurd cc
number_is_value literal.Null kind.Boolean v e h = absurd cc
number_is_value literal.Null (kind.Varchar most) v e h = absurd cc
number_is_value literal.Null kind.Text v e h = absurd cc
number_is_value literal.Null kind.Moment v e h = absurd cc
number_is_value literal.Null (kind.Decimal digits places) v e h = absurd cc
number_is_value (literal.Int n) k v e h = int_is_value n k v e h
number_is_value (literal.Fixed units scale) k v e h = decimal_is_value units scale k v e h
number_is_value (literal.Text text) kind.Int v e h = absurd cc
number_is_value (literal.Text text) kind.BigInt v e h = absurd cc
number_is_value (literal.Text text) kind.Boolean v e h = absurd cc
number_is_value (literal.Text text) (kind.Varchar most) v e h = absurd cc
number_is_value (literal.Text text) kind.Text v e h = absurd cc
number_is_value (literal.Text text) kind.Moment v e h = absurd cc
number_is_value (literal.Text text) (kind.Decimal digits places) v e h = absurd cc
number_is_value (literal.Bool b) kind.Int v e h = absurd cc
number_is_value (literal.Bool b) kind.BigInt v e h = absurd cc
number_is_value (literal.Bool b) kind.Boolean v e h = absurd cc
number_is_value (literal.Bool b) (kind.Varchar most) v e h = absurd cc
number_is_value (literal.Bool b) kind.Text v e h = absurd cc
number_is_value (literal.Bool b) kind.Moment v e h = absurd cc
number_is_value (literal.Bool b) (kind.Decimal digits places) v e h = absurd cc

spelled_is_value : (k : Kind) (number : Option Literal) (v : Value) → option_and_then (said_by_number k) number ≡ Some v → has_width k v ≡ true → is_value_of k v ≡ true
spelled_is_value k number v e h = let is = and_then_some (said_by_number k) number v e in number_is_value is.0 k v is.2 h

moment_is_value : (text : List ℕ) (v : Value) → option_map value.Moment (moment_of text) ≡ Some v → is_value_of kind.Moment v ≡ true
unfolding is_value_of
moment_is_value text v e =
    let is = map_some value.Moment (moment_of text) v e in
    subst (λ w. is_value_of kind.Moment w ≡ true) is.2 (is_moment-from_IsMoment is.0 (moment_of-IsMoment text is.0 is.1))

text_is_value : (text : List ℕ) (k : Kind) (v : Value) → said_by_text k text ≡ Some v → has_width k v ≡ true → is_value_of k v ≡ true
unfolding is_value_of
text_is_value text kind.Int v e h = spelled_is_value kind.Int (number_of text) v e h
text_is_value text kind.BigInt v e h = spelled_is_value kind.BigInt (number_of text) v e h
text_is_value text kind.Boolean v e h = truth_is_value _ _ true false v e
text_is_value text (kind.Varchar most) v e h = let is : value.Text text ≡ v = cc in subst (λ w. has_width (kind.Varchar most) w ≡ true → is_value_of (kind.Varchar most) w ≡ true) is (λ width. width) h
text_is_value text kind.Text v e h = let is : value.Text text ≡ v = cc in subst (λ w. is_value_of kind.Text w ≡ true) is refl
text_is_value text kind.Moment v e h = moment_is_value text v e
text_is_value text (kind.Decimal digits places) v e h = spelled_is_value (kind.Decimal digits places) (number_of text) v e h

truth_said : (b : Bool) (k : Kind) (v : Value) → said_in k (literal.Bool b) ≡ Some v → is_value_of k v ≡ true
unfolding is_value_of
truth_said b kind.Int v e = absurd cc
truth_said b kind.BigInt v e = absurd cc
truth_said b kind.Boolean v e = let is : value.Bool b ≡ v = cc in subst (λ w. is_value_of kind.Boolean w ≡ true) is refl
truth_said b (kind.Varchar most) v e = absurd cc
truth_said b kind.Text v e = absurd cc
truth_said b kind.Moment v e = absurd cc
truth_said b (kind.Decimal digits places) v e = absurd cc

null_said : (k : Kind) (v : Value) → said_in k literal.Null ≡ Some v → is_value_of k v ≡ true
unfolding is_value_of
null_said k v e = let is : value.Null ≡ v = cc in subst (λ w. is_value_of k w ≡ true) is refl

said_is_value : (l : Literal) (k : Kind) (v : Value) → said_in k l ≡ Some v → has_width k v ≡ true → is_value_of k v ≡ true
said_is_value literal.Null k v e h = null_said k v e
said_is_value (literal.Int n) k v e h = int_is_value n k v e h
said_is_value (literal.Fixed units scale) k v e h = decimal_is_value units scale k v e h
said_is_value (literal.Text text) k v e h = text_is_value text k v e h
said_is_value (literal.Bool b) k v e h = truth_said b k v e

within_passed : (k : Kind) (said : Option Value) (v : Value) → within_width k said ≡ Ok v → (said ≡ Some v) × (has_width k v ≡ true)
within_passed k None v e = absurd cc
within_passed k (Some x) v e =
    let is = passed (has_width k x) x v TooWide e in
    (ap (λ y. Some y) is.1, subst (λ y. has_width k y ≡ true) is.1 is.0)

pub into_kind-is_value : (l : Literal) (k : Kind) (v : Value) → into_kind l k ≡ Ok v → is_value_of k v ≡ true
unfolding into_kind
into_kind-is_value l k v e = let is = within_passed k (said_in k l) v e in said_is_value l k v is.0 is.1
