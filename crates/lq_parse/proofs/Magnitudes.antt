-- What digits write is no less than what the first of them write.
use Rattle.std.proofs.Common.{◌≡◌, ℕ, ◌+◌, ◌-◌, ◌*◌, ◌^◌, ◌/◌, ◌<◌, ◌≤◌, Bool, true, false, ◌&&◌, nat_le, List, [], ◌∷◌, length, refl, arith, rules, tests}
use Rattle.std.specs.Char.{is_ascii_digit, digit_value}
use Rattle.std.specs.List.{list_all}
use Rattle.std.specs.Prelude.{slice_index}
use Rattle.std.specs.Str.Parse.{digits_value_after}
use Rattle.std.proofs.lemmas.Str.{digit_value_digit}

both_true : (a b : Bool) → (a && b) ≡ true → (a ≡ true) × (b ≡ true)
both_true true b is = (refl, is)
both_true false b is = absurd cc

value_grows : (ds : List ℕ) (v : ℕ) → v ≤ digits_value_after 10 v ds
value_grows [] v = omega arith
value_grows (d ∷ ds) v = omega (arith, value_grows ds (v * 10 + digit_value d))

pub over_before : (v : ℕ) (ds : List ℕ) (n : ℕ) → 2 ^ 127 / 10 < v → 1 ≤ length ds → digits_value_after 10 v ds ≡ n → 2 ^ 127 < n
over_before v [] n over some is = absurd (omega arith)
over_before v (d ∷ ds) n over some is = omega (arith, value_grows ds (v * 10 + digit_value d))

first_digit : (d : ℕ) (ds : List ℕ) → list_all is_ascii_digit (d ∷ ds) ≡ true → digit_value d ≡ d - 48
first_digit d ds h =
    let both = both_true (is_ascii_digit d) (list_all is_ascii_digit ds) h in
    let range = both_true (nat_le 48 d) (nat_le d 57) both.0 in
    let low : 48 ≤ d = search (rules, tests) in
    let high : d ≤ 57 = search (rules, tests) in
    omega (arith, digit_value_digit d (low, high))

pub over_after : (v digit : ℕ) (ds : List ℕ) (n : ℕ) → digit ≡ slice_index ds 0 - 48 → 2 ^ 127 < v * 10 + digit → 1 ≤ length ds → list_all is_ascii_digit ds ≡ true
    → digits_value_after 10 v ds ≡ n → 2 ^ 127 < n
over_after v digit [] n digit_is over some digits is = absurd (omega arith)
over_after v digit (d ∷ ds) n digit_is over some digits is = omega (arith, value_grows ds (v * 10 + digit_value d), first_digit d ds digits)
