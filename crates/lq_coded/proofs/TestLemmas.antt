-- A test is read and written by levels.
use Rattle.std.proofs.Common.{max, nat_lt, ◌&&◌, ◌≡◌, ◌-◌, ◌+◌, ◌<◌, ◌++◌, ◌∷◌, ℕ, suc, Bool, true, false, List, Option, None, refl, sym, ◌∙◌, ap, subst, arith}
use Rattle.std.proofs.lemmas.Bool.{ltb-true}
use Rattle.std.proofs.lemmas.Bool.Decides.{nat_tests}
use Rattle.std.specs.Cmp.{both_ways}
use Rattle.std.proofs.lemmas.List.{append-nil}
use Rattle.lq_model.specs.Comparison.{levels}
use Rattle.lq_model.specs.Truth.{Both, Either, Turned}
use Rattle.lq_model.specs.declared.test.Test.{And, Not, Or, Test}
use Rattle.lq_codec.specs.State.{OnTrue, is_below_level}
use Rattle.lq_codec.specs.Queries.{test_codec, whole_test}
use Rattle.lq_codec.proofs.Laws.{and_left, and_right, both_true}

pub both_is : (a b : Test) → Both a b ≡ And a b
unfolding Rattle.lq_model.specs.declared.test.Test.TheBlock.hidden-the_row-Test-0 denote.Hole.Carrier.hidden
both_is a b = refl

pub either_is : (a b : Test) → Either a b ≡ Or a b
unfolding Rattle.lq_model.specs.declared.test.Test.TheBlock.hidden-the_row-Test-0 denote.Hole.Carrier.hidden
either_is a b = refl

pub turned_is : (a : Test) → Turned a ≡ Not a
unfolding Rattle.lq_model.specs.declared.test.Test.TheBlock.hidden-the_row-Test-0 denote.Hole.Carrier.hidden
turned_is a = refl

pub at_level : (n : ℕ) (bytes : List ℕ) (o : Option (Test × List ℕ)) → (n ≡ 0 → ⊥) → (test_codec (suc (n - 1))).read bytes ≡ o → (test_codec n).read bytes ≡ o
at_level n bytes o some is = let next : n ≡ suc (n - 1) = omega (arith, some) in ap (λ (k : ℕ). (test_codec k).read bytes) next ∙ is

pub no_level : (n : ℕ) (bytes : List ℕ) → n ≡ 0 → (test_codec n).read bytes ≡ None
no_level n bytes is = ap (λ (k : ℕ). (test_codec k).read bytes) is

-- what has no test in it has a level
pub leaf_below : (n : ℕ) → nat_lt 0 (suc n) ≡ true
leaf_below n = grind (arith, nat_tests)

-- the bytes of what has a level, and of what has none
pub level_written : (n : ℕ) (t : Test) (before after : List ℕ) → (n ≡ 0 → ⊥) → after ≡ before ++ (test_codec (suc (n - 1))).write t → after ≡ before ++ (test_codec n).write t
level_written n t before after some is = let next : suc (n - 1) ≡ n = omega (arith, some) in is ∙ ap (λ (k : ℕ). before ++ (test_codec k).write t) next

pub none_written : (n : ℕ) (t : Test) (before : List ℕ) → n ≡ 0 → before ≡ before ++ (test_codec n).write t
none_written n t before is = sym (append-nil before) ∙ ap (λ (k : ℕ). before ++ (test_codec k).write t) (sym is)

pub level_fits : (n : ℕ) (t : Test) → (n ≡ 0 → ⊥) → OnTrue (is_below_level (suc (n - 1)) t) ((test_codec (suc (n - 1))).ok t ≡ true) → OnTrue (is_below_level n t) ((test_codec n).ok t ≡ true)
level_fits n t some is = let next : suc (n - 1) ≡ n = omega (arith, some) in subst (λ (k : ℕ). OnTrue (is_below_level k t) ((test_codec k).ok t ≡ true)) next is

none_below : (l : ℕ) → nat_lt l 0 ≡ false
none_below l = grind (arith, nat_tests)

pub none_fits : (n : ℕ) (t : Test) → n ≡ 0 → OnTrue (is_below_level n t) ((test_codec n).ok t ≡ true)
none_fits n t is =
    subst (λ (k : ℕ). OnTrue (is_below_level k t) ((test_codec k).ok t ≡ true)) (sym is)
    (subst (λ (b : Bool). OnTrue b (false ≡ true)) (sym (none_below (levels t))) tt)

-- the bytes of AND, OR and NOT: the place, and what stands in them
pub and_written : (n : ℕ) (a b : Test) (before after : List ℕ) → after ≡ before ++ 3 ∷ ((test_codec n).write a ++ (test_codec n).write b) → after ≡ before ++ (test_codec (suc n)).write (And a b)
and_written n a b before after is = is ∙ ap (λ (t : Test). before ++ (test_codec (suc n)).write t) (both_is a b)

pub or_written : (n : ℕ) (a b : Test) (before after : List ℕ) → after ≡ before ++ 4 ∷ ((test_codec n).write a ++ (test_codec n).write b) → after ≡ before ++ (test_codec (suc n)).write (Or a b)
or_written n a b before after is = is ∙ ap (λ (t : Test). before ++ (test_codec (suc n)).write t) (either_is a b)

pub not_written : (n : ℕ) (a : Test) (before after : List ℕ) → after ≡ before ++ 5 ∷ (test_codec n).write a → after ≡ before ++ (test_codec (suc n)).write (Not a)
not_written n a before after is = is ∙ ap (λ (t : Test). before ++ (test_codec (suc n)).write t) (turned_is a)

-- AND, OR and NOT have a level more than what stands in them
two_below : (a b n : ℕ) → nat_lt (max a b + 1) (suc n) ≡ nat_lt a n && nat_lt b n
two_below a b n = both_ways (nat_lt (max a b + 1) (suc n)) (nat_lt a n && nat_lt b n)
    (λ h.
    let le : max a b + 1 < suc n = ltb-true (max a b + 1) (suc n) h in
    let x : nat_lt a n ≡ true = grind (arith, nat_tests, le) in
    let y : nat_lt b n ≡ true = grind (arith, nat_tests, le) in
    both_true (nat_lt a n) (nat_lt b n) x y)
    (λ h.
    let x : a < n = ltb-true a n (and_left (nat_lt a n) (nat_lt b n) h) in
    let y : b < n = ltb-true b n (and_right (nat_lt a n) (nat_lt b n) h) in
    grind (arith, nat_tests, x, y))

one_below : (a n : ℕ) → nat_lt (a + 1) (suc n) ≡ nat_lt a n
one_below a n = both_ways (nat_lt (a + 1) (suc n)) (nat_lt a n)
    (λ h. let le : a + 1 < suc n = ltb-true (a + 1) (suc n) h in grind (arith, nat_tests, le))
    (λ h. let le : a < n = ltb-true a n h in grind (arith, nat_tests, le))

pub and_fits : (n : ℕ) (a b : Test) → OnTrue (is_below_level n a && is_below_level n b) ((test_codec n).ok a && (test_codec n).ok b ≡ true) → OnTrue (is_below_level (suc n) (And a b)) ((test_codec (suc n)).ok (And a b) ≡ true)
and_fits n a b is =
    subst (λ (t : Test). OnTrue (is_below_level (suc n) t) ((test_codec (suc n)).ok t ≡ true)) (both_is a b)
    (subst (λ (p : Bool). OnTrue p ((test_codec n).ok a && (test_codec n).ok b ≡ true)) (sym (two_below (levels a) (levels b) n)) is)

pub or_fits : (n : ℕ) (a b : Test) → OnTrue (is_below_level n a && is_below_level n b) ((test_codec n).ok a && (test_codec n).ok b ≡ true) → OnTrue (is_below_level (suc n) (Or a b)) ((test_codec (suc n)).ok (Or a b) ≡ true)
or_fits n a b is =
    subst (λ (t : Test). OnTrue (is_below_level (suc n) t) ((test_codec (suc n)).ok t ≡ true)) (either_is a b)
    (subst (λ (p : Bool). OnTrue p ((test_codec n).ok a && (test_codec n).ok b ≡ true)) (sym (two_below (levels a) (levels b) n)) is)

pub not_fits : (n : ℕ) (a : Test) → OnTrue (is_below_level n a) ((test_codec n).ok a ≡ true) → OnTrue (is_below_level (suc n) (Not a)) ((test_codec (suc n)).ok (Not a) ≡ true)
not_fits n a is =
    subst (λ (t : Test). OnTrue (is_below_level (suc n) t) ((test_codec (suc n)).ok t ≡ true)) (turned_is a)
    (subst (λ (p : Bool). OnTrue p ((test_codec n).ok a ≡ true)) (sym (one_below (levels a) n)) is)

-- what stands in no other test
pub whole_read : (bytes : List ℕ) (o : Option (Test × List ℕ)) → (test_codec 65).read bytes ≡ o → whole_test.read bytes ≡ o
unfolding whole_test
whole_read bytes o is = is

pub whole_written : (t : Test) (before after : List ℕ) → after ≡ before ++ (test_codec 65).write t → after ≡ before ++ whole_test.write t
unfolding whole_test
whole_written t before after is = is

pub whole_fits : (t : Test) → OnTrue (is_below_level 65 t) ((test_codec 65).ok t ≡ true) → OnTrue (is_below_level 65 t) (whole_test.ok t ≡ true)
unfolding whole_test
whole_fits t is = is
