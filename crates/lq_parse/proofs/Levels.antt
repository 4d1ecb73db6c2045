-- How deep the parts of a test may be.
use Rattle.std.proofs.Common.{◌≡◌, ℕ, suc, ◌+◌, ◌-◌, ◌<◌, ◌≤◌, List, [], ◌∷◌, Bool, true, false, ◌&&◌, nat_le, max, refl, ap, ◌∙◌, sym, arith}
use Rattle.std.proofs.lemmas.Bool.{le-leb, leb-true}
use Rattle.std.specs.List.{fold}
use Rattle.lq_model.specs.Comparison.{levels}
use Rattle.lq_model.specs.declared.test.Test.{And, Not, Or, Test}

levels_of_and : (a b : Test) → levels (And a b) ≡ max (levels a) (levels b) + 1
unfolding Rattle.lq_model.specs.declared.test.Test.TheBlock.hidden-the_row-Test-0 denote.Hole.Carrier.hidden
levels_of_and a b = refl

levels_of_or : (a b : Test) → levels (Or a b) ≡ max (levels a) (levels b) + 1
unfolding Rattle.lq_model.specs.declared.test.Test.TheBlock.hidden-the_row-Test-0 denote.Hole.Carrier.hidden
levels_of_or a b = refl

levels_of_not : (a : Test) → levels (Not a) ≡ levels a + 1
unfolding Rattle.lq_model.specs.declared.test.Test.TheBlock.hidden-the_row-Test-0 denote.Hole.Carrier.hidden
levels_of_not a = refl

same_tests : (a b : Bool) → (a ≡ true → b ≡ true) → (b ≡ true → a ≡ true) → a ≡ b
same_tests true b f g = sym (f refl)
same_tests false true f g = g refl
same_tests false false f g = refl

and_true : (a b : Bool) → (a && b) ≡ true → (a ≡ true) × (b ≡ true)
and_true true b is = (refl, is)
and_true false b is = absurd cc

one_more : (a n : ℕ) → 0 < n → nat_le (a + 1) n ≡ nat_le a (n - 1)
one_more a n some =
    same_tests (nat_le (a + 1) n) (nat_le a (n - 1))
    (λ is. let le = leb-true (a + 1) n is in le-leb a (n - 1) (omega arith))
    (λ is. let le = leb-true a (n - 1) is in le-leb (a + 1) n (omega arith))

both_within : (a b n : ℕ) → 0 < n → nat_le (max a b + 1) n ≡ (nat_le a (n - 1) && nat_le b (n - 1))
both_within a b n some =
    same_tests (nat_le (max a b + 1) n) (nat_le a (n - 1) && nat_le b (n - 1))
    (λ is. let le = leb-true (max a b + 1) n is in rw (le-leb a (n - 1) (omega arith), le-leb b (n - 1) (omega arith)) refl)
    (λ is.
    let both = and_true (nat_le a (n - 1)) (nat_le b (n - 1)) is in
    let first = leb-true a (n - 1) both.0 in
    let second = leb-true b (n - 1) both.1 in
    le-leb (max a b + 1) n (omega arith))

pub within_and : (a b : Test) (n : ℕ) → 0 < n → nat_le (levels (And a b)) n ≡ (nat_le (levels a) (n - 1) && nat_le (levels b) (n - 1))
within_and a b n some = ap (λ k. nat_le k n) (levels_of_and a b) ∙ both_within (levels a) (levels b) n some

pub within_or : (a b : Test) (n : ℕ) → 0 < n → nat_le (levels (Or a b)) n ≡ (nat_le (levels a) (n - 1) && nat_le (levels b) (n - 1))
within_or a b n some = ap (λ k. nat_le k n) (levels_of_or a b) ∙ both_within (levels a) (levels b) n some

pub within_not : (a : Test) (n : ℕ) → 0 < n → nat_le (levels (Not a)) n ≡ nat_le (levels a) (n - 1)
within_not a n some = ap (λ k. nat_le k n) (levels_of_not a) ∙ one_more (levels a) n some

none_within : (a : ℕ) → nat_le (a + 1) 0 ≡ false
none_within a = same_tests (nat_le (a + 1) 0) false (λ is. let le = leb-true (a + 1) 0 is in absurd (omega arith)) (λ is. absurd cc)

pub none_past : (a n : ℕ) → n < a → nat_le a n ≡ false
none_past a n past = same_tests (nat_le a n) false (λ is. let le = leb-true a n is in absurd (omega arith)) (λ is. absurd cc)

pub none_and : (a b : Test) → nat_le (levels (And a b)) 0 ≡ false
none_and a b = ap (λ k. nat_le k 0) (levels_of_and a b) ∙ none_within (max (levels a) (levels b))

pub none_or : (a b : Test) → nat_le (levels (Or a b)) 0 ≡ false
none_or a b = ap (λ k. nat_le k 0) (levels_of_or a b) ∙ none_within (max (levels a) (levels b))

pub none_not : (a : Test) → nat_le (levels (Not a)) 0 ≡ false
none_not a = ap (λ k. nat_le k 0) (levels_of_not a) ∙ none_within (levels a)

pub and_second : (test a b : Test) (n : ℕ) (r : Bool) → test ≡ And a b → 0 < n → nat_le (levels a) (n - 1) ≡ true → r ≡ nat_le (levels b) (n - 1) → r ≡ nat_le (levels test) n
and_second test a b n r is some first second =
    second ∙ sym (ap (λ x. x && nat_le (levels b) (n - 1)) first) ∙ sym (within_and a b n some) ∙ sym (ap (λ t. nat_le (levels t) n) is)

pub or_second : (test a b : Test) (n : ℕ) (r : Bool) → test ≡ Or a b → 0 < n → nat_le (levels a) (n - 1) ≡ true → r ≡ nat_le (levels b) (n - 1) → r ≡ nat_le (levels test) n
or_second test a b n r is some first second =
    second ∙ sym (ap (λ x. x && nat_le (levels b) (n - 1)) first) ∙ sym (within_or a b n some) ∙ sym (ap (λ t. nat_le (levels t) n) is)

-- what is joined is deeper than its parts
pub record Deepens (join : Test → Test → Test) : Type 0 where
  pub left : (a b : Test) → suc (levels a) ≤ levels (join a b)
  pub right : (a b : Test) → suc (levels b) ≤ levels (join a b)

and_left : (a b : Test) → suc (levels a) ≤ levels (And a b)
and_left a b = let is = levels_of_and a b in omega arith

and_right : (a b : Test) → suc (levels b) ≤ levels (And a b)
and_right a b = let is = levels_of_and a b in omega arith

or_left : (a b : Test) → suc (levels a) ≤ levels (Or a b)
or_left a b = let is = levels_of_or a b in omega arith

or_right : (a b : Test) → suc (levels b) ≤ levels (Or a b)
or_right a b = let is = levels_of_or a b in omega arith

pub and_deepens : Deepens And
and_deepens = record { left = and_left; right = and_right }

pub or_deepens : Deepens Or
or_deepens = record { left = or_left; right = or_right }

pub not_deepens : (a : Test) → levels (Not a) ≡ suc (levels a)
not_deepens a = let is = levels_of_not a in omega arith

deeper : (join : Test → Test → Test) (a b both : Test) (n : ℕ) → Deepens join → 0 < n → 64 ≤ levels a + n → both ≡ join a b → 64 ≤ levels both + (n - 1)
deeper join a b both n d some deep is = let more = d.left a b in let same : levels both ≡ levels (join a b) = ap levels is in omega arith

pub and_deeper : (a b both : Test) (n : ℕ) → 0 < n → 64 ≤ levels a + n → both ≡ And a b → 64 ≤ levels both + (n - 1)
and_deeper a b both n some deep is = deeper And a b both n and_deepens some deep is

pub or_deeper : (a b both : Test) (n : ℕ) → 0 < n → 64 ≤ levels a + n → both ≡ Or a b → 64 ≤ levels both + (n - 1)
or_deeper a b both n some deep is = deeper Or a b both n or_deepens some deep is

-- so a chain is no less deep than its first
pub fold_deepens : (join : Test → Test → Test) (a : Test) (more : List Test) → Deepens join → levels a ≤ levels (fold join a more)
fold_deepens join a [] d = omega arith
fold_deepens join a (b ∷ more) d = omega (arith, d.left a b, fold_deepens join (join a b) more d)
