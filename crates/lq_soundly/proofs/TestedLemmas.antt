-- Lemmas on tests.
use Rattle.std.proofs.Common.{arith, Bool, List, [], ap, false, max, nat_le, not, refl, true, ℕ, ◌&&◌, ◌++◌, ◌+◌, ◌-◌, ◌<◌, ◌∙◌, ◌∷◌, ◌≡◌, ◌||◌}
use Rattle.std.proofs.Common.{◌≤◌}
use Rattle.std.proofs.lemmas.Bool.Decides.{nat_tests}
use Rattle.std.proofs.lemmas.Bool.{leb-true}
use Rattle.std.specs.Cmp.{both_ways}
use Rattle.lq_model.proofs.Lists.{and_left, and_right, and_true}
use Rattle.std.specs.List.{list_all, list_any}
use Rattle.std.proofs.lemmas.List.Folds.{list_all-append}
use Rattle.lq_model.specs.Comparison.{is_literal, levels, operand_literals, test_literals}
use Rattle.lq_model.specs.declared.test.Op.{Op}
use Rattle.lq_model.specs.declared.test.Operand.{Operand}
use Rattle.lq_model.specs.declared.test.Test.{And, Compare, Not, Or, Test}

and_of : (a b : Test) → test_literals (And a b) ≡ test_literals a ++ test_literals b
unfolding Rattle.lq_model.specs.declared.test.Test.TheBlock.hidden-the_row-Test-0 denote.Hole.Carrier.hidden
and_of a b = refl

or_of : (a b : Test) → test_literals (Or a b) ≡ test_literals a ++ test_literals b
unfolding Rattle.lq_model.specs.declared.test.Test.TheBlock.hidden-the_row-Test-0 denote.Hole.Carrier.hidden
or_of a b = refl

pub literals_not : (a : Test) → list_all is_literal (test_literals (Not a)) ≡ list_all is_literal (test_literals a)
unfolding Rattle.lq_model.specs.declared.test.Test.TheBlock.hidden-the_row-Test-0 denote.Hole.Carrier.hidden
literals_not a = refl

pub literals_and : (a b : Test) → list_all is_literal (test_literals (And a b)) ≡ (list_all is_literal (test_literals a) && list_all is_literal (test_literals b))
literals_and a b = ap (list_all is_literal) (and_of a b) ∙ list_all-append is_literal (test_literals a) (test_literals b)

pub literals_or : (a b : Test) → list_all is_literal (test_literals (Or a b)) ≡ (list_all is_literal (test_literals a) && list_all is_literal (test_literals b))
literals_or a b = ap (list_all is_literal) (or_of a b) ∙ list_all-append is_literal (test_literals a) (test_literals b)

pub literals_two : (op : Op) (x y : Operand) → list_all is_literal (test_literals (Compare op x y)) ≡ (list_all is_literal (operand_literals x) && list_all is_literal (operand_literals y))
literals_two op x y = list_all-append is_literal (operand_literals x) (operand_literals y)

level_and : (a b : Test) → levels (And a b) ≡ max (levels a) (levels b) + 1
unfolding Rattle.lq_model.specs.declared.test.Test.TheBlock.hidden-the_row-Test-0 denote.Hole.Carrier.hidden
level_and a b = refl

level_or : (a b : Test) → levels (Or a b) ≡ max (levels a) (levels b) + 1
unfolding Rattle.lq_model.specs.declared.test.Test.TheBlock.hidden-the_row-Test-0 denote.Hole.Carrier.hidden
level_or a b = refl

level_not : (a : Test) → levels (Not a) ≡ levels a + 1
unfolding Rattle.lq_model.specs.declared.test.Test.TheBlock.hidden-the_row-Test-0 denote.Hole.Carrier.hidden
level_not a = refl

pub not_lacking : {A : Type 0} (q : A → Bool) (ns : List A) → not (list_any (λ n. not (q n)) ns) ≡ list_all q ns
not_lacking q [] = refl
not_lacking q (n ∷ ns) = by (q n) (not_lacking q ns) where
  by : (b : Bool) → not (list_any (λ n. not (q n)) ns) ≡ list_all q ns → not (not b || list_any (λ n. not (q n)) ns) ≡ (b && list_all q ns)
  by true more = more
  by false more = refl

two : (x y n : ℕ) → 0 < n → nat_le (max x y + 1) n ≡ (nat_le x (n - 1) && nat_le y (n - 1))
two x y n some = both_ways (nat_le (max x y + 1) n) (nat_le x (n - 1) && nat_le y (n - 1))
    (λ h.
    let le : max x y + 1 ≤ n = leb-true (max x y + 1) n h in
    let a : nat_le x (n - 1) ≡ true = grind (arith, nat_tests, le) in
    let b : nat_le y (n - 1) ≡ true = grind (arith, nat_tests, le) in
    and_true (nat_le x (n - 1)) (nat_le y (n - 1)) a b)
    (λ h.
    let a : x ≤ n - 1 = leb-true x (n - 1) (and_left (nat_le x (n - 1)) (nat_le y (n - 1)) h) in
    let b : y ≤ n - 1 = leb-true y (n - 1) (and_right (nat_le x (n - 1)) (nat_le y (n - 1)) h) in
    grind (arith, nat_tests, a, b, some))

pub levels_and : (a b : Test) (n : ℕ) → 0 < n → nat_le (levels (And a b)) n ≡ (nat_le (levels a) (n - 1) && nat_le (levels b) (n - 1))
levels_and a b n some = ap (λ x. nat_le x n) (level_and a b) ∙ two (levels a) (levels b) n some

pub levels_or : (a b : Test) (n : ℕ) → 0 < n → nat_le (levels (Or a b)) n ≡ (nat_le (levels a) (n - 1) && nat_le (levels b) (n - 1))
levels_or a b n some = ap (λ x. nat_le x n) (level_or a b) ∙ two (levels a) (levels b) n some

one : (x n : ℕ) → 0 < n → nat_le (x + 1) n ≡ nat_le x (n - 1)
one x n some = both_ways (nat_le (x + 1) n) (nat_le x (n - 1))
    (λ h. let le : x + 1 ≤ n = leb-true (x + 1) n h in grind (arith, nat_tests, le))
    (λ h. let le : x ≤ n - 1 = leb-true x (n - 1) h in grind (arith, nat_tests, le, some))

pub levels_not : (a : Test) (n : ℕ) → 0 < n → nat_le (levels (Not a)) n ≡ nat_le (levels a) (n - 1)
levels_not a n some = ap (λ x. nat_le x n) (level_not a) ∙ one (levels a) n some

none_at : (x : ℕ) → nat_le (x + 1) 0 ≡ false
none_at x = grind (arith, nat_tests)

pub no_level_and : (a b : Test) → nat_le (levels (And a b)) 0 ≡ false
no_level_and a b = ap (λ x. nat_le x 0) (level_and a b) ∙ none_at (max (levels a) (levels b))

pub no_level_or : (a b : Test) → nat_le (levels (Or a b)) 0 ≡ false
no_level_or a b = ap (λ x. nat_le x 0) (level_or a b) ∙ none_at (max (levels a) (levels b))

pub no_level_not : (a : Test) → nat_le (levels (Not a)) 0 ≡ false
no_level_not a = ap (λ x. nat_le x 0) (level_not a) ∙ none_at (levels a)
