-- Powers of ten, and the values of digits.
use Rattle.std.proofs.Common.{◌≡◌, ℕ, suc, ◌+◌, ◌-◌, ◌*◌, ◌^◌, ◌<◌, ◌≤◌, Bool, true, ◌&&◌, nat_le, List, [], ◌∷◌, ◌++◌, length, take, drop, get_or, Option, Some, None, cond, ltb, unwrap_or, min, arith, rules, tests, refl, ap, ◌∙◌, sym, false}
use Rattle.std.specs.List.{position_or_len, list_all}
use Rattle.std.specs.Char.{is_ascii_digit, digit_value}
use Rattle.std.specs.Str.Parse.{digits_value_after}
use Rattle.std.proofs.Math.Nat.{pow-succ', mul_assoc, pow-le-pow_right, one-le-pow, mul-le-mul, mul-le-mul_right, mul-le-mul_left}
use Rattle.std.proofs.lemmas.List.{take_all}
use Rattle.std.proofs.lemmas.List.Sums.{prefix_len-le-length}
use Rattle.std.proofs.lemmas.Str.{digit_value_digit}
use Rattle.std.proofs.lemmas.Nat.{pow-add}
use Rattle.std.proofs.lemmas.Option.{none-some}
use Rattle.lq_base.specs.Number.{has_digits}

-- what `position` gives, or the length
pub place_from_position : {X : Type 0} (p : X → Bool) (xs : List X) (found : Option ℕ) (place : ℕ) → found ≡ cond (ltb (position_or_len p xs) (length xs)) (Some (position_or_len p xs)) None → place ≡ unwrap_or found (length xs) → place ≡ position_or_len p xs
place_from_position p xs found place is e =
    let bound : position_or_len p xs ≤ length xs = prefix_len-le-length _ xs in
    e ∙ ap (λ o. unwrap_or o (length xs)) is ∙ grind (arith, tests)

-- a higher power is no less
pub ten_pow_le : (k m : ℕ) → k ≤ m → 10 ^ k ≤ 10 ^ m
ten_pow_le k m h = pow-le-pow_right (omega arith) h

pub ten_pow_pos : (k : ℕ) → 1 ≤ 10 ^ k
ten_pow_pos k = one-le-pow k 10 (omega arith)

-- one digit more
pub next_digit_fits : (v d k : ℕ) → d < 10 → (v * 10 + d + 1) * 10 ^ k ≤ (v + 1) * 10 ^ suc k
next_digit_fits v d k small =
    rw (pow-succ' 10 k, ← mul_assoc (v + 1) 10 (10 ^ k)) (mul-le-mul_right (10 ^ k) (omega arith))

-- the same, where the digits that follow are counted
pub next_digit_within : (v d k n : ℕ) → d < 10 → k + 1 ≡ n → (v * 10 + d + 1) * 10 ^ k ≤ (v + 1) * 10 ^ n
next_digit_within v d k n small e =
    let more : suc k ≡ n = omega arith in
    rw (← more) (next_digit_fits v d k small)

-- a power of ten is no less than 1
pub at_most_scaled : (v k : ℕ) → v ≤ v * 10 ^ k
at_most_scaled v k = let h = mul-le-mul_left v (ten_pow_pos k) in omega (arith, h)

pub both_true : (a b : Bool) → (a && b) ≡ true → (a ≡ true) × (b ≡ true)
both_true true b e = (refl, e)
both_true false b e = absurd (search (rules, tests))

-- what the first of some digits is, and what the rest are
pub record FirstDigit (v : ℕ) (xs rest : List ℕ) : Type 0 where
  pub low : 48 ≤ get_or xs 0 0
  pub high : get_or xs 0 0 ≤ 57
  pub digits : list_all is_ascii_digit rest ≡ true
  pub count : length rest + 1 ≡ length xs
  pub value : digits_value_after 10 v xs ≡ digits_value_after 10 (v * 10 + (get_or xs 0 0 - 48)) rest

pub first_digit : (v : ℕ) (xs : List ℕ) → 1 ≤ length xs → list_all is_ascii_digit xs ≡ true → FirstDigit v xs (take (length xs - 1) (drop 1 xs))
first_digit v [] h e = absurd (omega arith)
first_digit v (x ∷ xs) h e =
    let both = both_true (is_ascii_digit x) (list_all is_ascii_digit xs) e in
    let range = both_true (nat_le 48 x) (nat_le x 57) both.0 in
    let low : 48 ≤ x = search (rules, tests) in
    let high : x ≤ 57 = search (rules, tests) in
    let rest : take (length (x ∷ xs) - 1) xs ≡ xs = take_all _ xs (omega arith) in
    let digit : digit_value x ≡ x - 48 = omega (arith, digit_value_digit x (low, high)) in
    rw rest (record { low = low; high = high; digits = both.1; count = omega arith; value = ap (λ d. digits_value_after 10 (v * 10 + d) xs) digit })

-- a number of m digits with k more has at most 38
pub scaled_fits : (v m k : ℕ) → v + 1 ≤ 10 ^ m → m + k ≤ 38 → (v + 1) * 10 ^ k ≤ 10 ^ 38
scaled_fits v m k small few =
    let scaled = mul-le-mul_right (10 ^ k) small in
    let joined = pow-add 10 m k in
    let most = ten_pow_le (m + k) 38 few in
    omega (arith, scaled, joined, most)

-- the digits of two texts in a row
pub digits_value_after-append : (radix v : ℕ) (xs ys : List ℕ) → digits_value_after radix v (xs ++ ys) ≡ digits_value_after radix (digits_value_after radix v xs) ys
digits_value_after-append radix v [] ys = refl
digits_value_after-append radix v (x ∷ xs) ys = digits_value_after-append radix (v * radix + digit_value x) xs ys

-- where three tests hold, the first of two is taken
pub all_three : {A : Type 0} (a b c : Bool) (x y : A) → a ≡ true → b ≡ true → c ≡ true → x ≡ cond ((a && b) && c) x y
all_three a b c x y p q r = rw (p, q, r) refl

-- a number of 38 digits has more than a decimal may have, once it has another decimal
pub too_many_digits : (m k digits : ℕ) → 1 ≤ k → 10 ^ 37 ≤ m → has_digits digits (m * 10 ^ k) ≡ false
too_many_digits m k digits some large =
    let most = ten_pow_le (min digits 38) 38 (omega arith) in
    let scaled = mul-le-mul {n₁ = 10 ^ 37} {n₂ = m} large (ten_pow_le 1 k some) in
    let beyond : 10 ^ min digits 38 ≤ m * 10 ^ k = omega (arith, most, scaled) in
    search (rules, tests)

-- one decimal, and then the others
pub scaled_step : (m k : ℕ) → 1 ≤ k → m * 10 * 10 ^ (k - 1) ≡ m * 10 ^ k
scaled_step m k some =
    let more : suc (k - 1) ≡ k = omega arith in
    mul_assoc m 10 (10 ^ (k - 1)) ∙ ap (λ p. m * p) (sym (pow-succ' 10 (k - 1)) ∙ ap (λ n. 10 ^ n) more)

-- a test and what it guards
pub both_some : {A : Type 0} (b : Bool) (o : Option A) (x : A) → cond b o None ≡ Some x → (b ≡ true) × (o ≡ Some x)
both_some true o x e = (refl, e)
both_some false o x e = absurd (none-some x e)
