-- Bytes that are among some, and runs of them.
use Rattle.std.proofs.Common.{◌≡◌, ℕ, zero, suc, ◌+◌, ◌<◌, ◌≤◌, ◌==◌, ◌||◌, nat_le, Bool, true, false, inl, inr, arith, rules, tests, List, [], ◌∷◌, ◌++◌, length, subst, sym, refl}
use Rattle.std.specs.Char.{is_ascii_digit}
use Rattle.std.specs.List.{list_all, list_any, prefix_len}
use Rattle.lq_base.specs.Sql.{is_blank}
use Rattle.std.proofs.lemmas.Bool.{and_from, and_parts, eqb-true, or_cases}

abbrev pub Each : (ℕ → Type 0) → List ℕ → Type 0
Each P [] = Unit {0}
Each P (c ∷ cs) = P c × Each P cs

-- one of these bytes
abbrev pub is_one_of : List ℕ → ℕ → Bool
is_one_of cs b = list_any (λ c. b == c) cs

pub each_is : (P : ℕ → Type 0) (cs : List ℕ) (b : ℕ) → is_one_of cs b ≡ true → Each P cs → P b
each_is P [] b is each = absurd cc
each_is P (c ∷ cs) b is each =
    elim (b == c) as (λ t. (b == c) ≡ t → (t || is_one_of cs b) ≡ true → P b) [
      | true ↦ λ e h. subst P (sym (eqb-true b c e)) each.0
      | false ↦ λ e h. each_is P cs b h each.1
    ] refl is

-- all that pass, before what does not
pub run_whole : (p : ℕ → Bool) (w rest : List ℕ) → list_all p w ≡ true → prefix_len p rest ≡ 0 → prefix_len p (w ++ rest) ≡ length w
run_whole p [] rest all stop = stop
run_whole p (b ∷ w) rest all stop =
    let both = and_parts (p b) (list_all p w) all in
    rw both.0 (let whole = run_whole p w rest both.1 stop in omega (arith, whole))

pub all_in : (p q : ℕ → Bool) → ((b : ℕ) → p b ≡ true → q b ≡ true) → (w : List ℕ) → list_all p w ≡ true → list_all q w ≡ true
all_in p q in_it [] all = refl
all_in p q in_it (b ∷ w) all =
    let both = and_parts (p b) (list_all p w) all in
    and_from (q b) (list_all q w) (in_it b both.0) (all_in p q in_it w both.1)

pub all_append : (p : ℕ → Bool) (a b : List ℕ) → list_all p a ≡ true → list_all p b ≡ true → list_all p (a ++ b) ≡ true
all_append p [] b x y = y
all_append p (c ∷ a) b x y =
    let both = and_parts (p c) (list_all p a) x in
    and_from (p c) (list_all p (a ++ b)) both.0 (all_append p a b both.1 y)

-- what may follow a word or a number: a blank, a parenthesis, a comma, or nothing
abbrev pub stops : List ℕ
stops = 32 ∷ 40 ∷ 41 ∷ 44 ∷ []

abbrev pub Stops : List ℕ → Type 0
Stops [] = Unit {0}
Stops (b ∷ rest) = is_one_of stops b ≡ true

pub stops_run : (p : ℕ → Bool) (rest : List ℕ) → Stops rest → Each (λ b. p b ≡ false) stops → prefix_len p rest ≡ 0
stops_run p [] h each = refl
stops_run p (b ∷ rest) h each = rw (each_is (λ c. p c ≡ false) stops b h each) refl

-- so many bytes from one on

abbrev pub EachFrom : (ℕ → Type 0) → ℕ → ℕ → Type 0
EachFrom P low zero = Unit {0}
EachFrom P low (suc count) = P low × EachFrom P (low + 1) count

from_is : (P : ℕ → Type 0) (count low b : ℕ) → low ≤ b → b < low + count → EachFrom P low count → P b
from_is P zero low b at_least below each = absurd (omega arith)
from_is P (suc count) low b at_least below each =
    elim (b == low) as (λ t. (b == low) ≡ t → P b) [
      | true ↦ λ e. subst P (sym (eqb-true b low e)) each.0
      | false ↦ λ e. let other = other_than e in from_is P count (low + 1) b (omega arith) (omega arith) each.1
    ] refl
  where
    other_than : (b == low) ≡ false → low < b
    other_than e = grind (arith, tests)

pub digit_is : (P : ℕ → Type 0) (b : ℕ) → is_ascii_digit b ≡ true → EachFrom P 48 10 → P b
digit_is P b is each =
    let both = and_parts (nat_le 48 b) (nat_le b 57) is in
    let low : 48 ≤ b = search (rules, tests) in
    let high : b ≤ 57 = search (rules, tests) in
    from_is P 10 48 b low (omega arith) each

pub blank_is : (P : ℕ → Type 0) (b : ℕ) → is_blank b ≡ true → P 32 → P 9 → P 13 → P 10 → P b
blank_is P b is space tab return feed =
    elim (or_cases (b == 32 || b == 9) (b == 13 || b == 10) is) [
      | inl one ↦ elim (or_cases (b == 32) (b == 9) one) [
        | inl e ↦ subst P (sym (eqb-true b 32 e)) space
        | inr e ↦ subst P (sym (eqb-true b 9 e)) tab
      ]
      | inr two ↦ elim (or_cases (b == 13) (b == 10) two) [
        | inl e ↦ subst P (sym (eqb-true b 13 e)) return
        | inr e ↦ subst P (sym (eqb-true b 10 e)) feed
      ]
    ]
