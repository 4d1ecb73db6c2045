-- How NOT, AND and OR bind where no parentheses stand.
use Rattle.std.proofs.Common.{◌≡◌, ◌<◌, ◌≤◌, ℕ, true, false, nat_le, List, [], ◌∷◌, ◌++◌, length, Some, option_map, ap, ◌∙◌, refl, arith}
use Rattle.std.specs.Prelude.{codes}
use Rattle.lq_base.specs.declared.dialect.Dialect.{Dialect}
use Rattle.lq_model.specs.TestText as text
use Rattle.lq_model.specs.Comparison.{levels}
use Rattle.lq_model.specs.SqlParser.{Parser, after, ended, expect, same_kind, sees, to_end}
use Rattle.lq_model.specs.SqlTest.{any_test, most, primary, product, sum, term}
use Rattle.lq_model.specs.SqlText.{test_in}
use Rattle.lq_model.specs.SqlWord.{bare, kind_of_word, words}
use Rattle.lq_model.specs.TestText.{test_text}
use Rattle.lq_model.specs.declared.test.Test.{And, Not, Or, Test}
use Rattle.lq_model.specs.declared.word.Word.{Word}
use Rattle.lq_model.specs.declared.word.WordKind.TheVariants as word
use Rattle.lq_parse.specs.Laws.{NotAndOrBindInTurn}
use Rattle.lq_parse.proofs.Again.{IsTest, and_here, begins, no_and_at_or, or_here, primary_again, product_of, product_one, product_two, sum_of, sum_one, sum_two, term_not, term_plain, test_long, test_words}
use Rattle.lq_parse.proofs.Chains.{many_two}
use Rattle.lq_parse.proofs.Fronts.{keyword_says}
use Rattle.lq_parse.proofs.ReadBack.{all_words, where_facts, whole_is}
use Rattle.lq_parse.proofs.Spoken.{Below, TestHasLiterals, and_says, or_says, test_says}
use Rattle.lq_parse.proofs.Written.{test_fact}

-- words of the texts

before_and : Below → (d : Dialect) (t : Test) (rest : List ℕ) (ws : List Word) → TestHasLiterals t → words d rest ≡ Some ws
    → words d (test_text d t ++ (codes " AND " ++ rest)) ≡ Some (test_words t (bare word.And ∷ ws))
unfolding text.words
before_and below d t rest ws can is =
    test_says below d t (codes " AND " ++ rest) can refl ∙ ap (option_map (test_words t)) (and_says below d rest ∙ ap (option_map (λ more. bare word.And ∷ more)) is)

before_or : Below → (d : Dialect) (t : Test) (rest : List ℕ) (ws : List Word) → TestHasLiterals t → words d rest ≡ Some ws
    → words d (test_text d t ++ (codes " OR " ++ rest)) ≡ Some (test_words t (bare word.Or ∷ ws))
unfolding text.words
before_or below d t rest ws can is =
    test_says below d t (codes " OR " ++ rest) can refl ∙ ap (option_map (test_words t)) (or_says below d rest ∙ ap (option_map (λ more. bare word.Or ∷ more)) is)

after_not : Below → (d : Dialect) (rest : List ℕ) (ws : List Word) → words d rest ≡ Some ws → words d (codes "NOT " ++ rest) ≡ Some (bare word.Not ∷ ws)
unfolding kind_of_word
after_not below d rest ws is = keyword_says below.go_on d 78 (codes "OT") rest (bare word.Not) refl refl ∙ ap (option_map (λ more. bare word.Not ∷ more)) is

at_last : Below → (d : Dialect) (t : Test) → TestHasLiterals t → words d (test_text d t) ≡ Some (test_words t [])
at_last below d t can = all_words d (test_text d t) (test_words t) (test_says below d t [] can tt)

-- the grammar, rule by rule

abbrev inner : Parser Test
inner = primary most

abbrev terms : Parser Test
terms = term inner

term_again : (t : Test) (rest : List Word) → IsTest t → levels t ≤ 64 → terms (test_words t rest) ≡ Some (t, rest)
term_again t rest g below = term_plain inner (test_words t rest) (begins t rest) ∙ primary_again t most rest g below

not_again : (t : Test) (rest : List Word) → IsTest t → levels t ≤ 64 → terms (bare word.Not ∷ test_words t rest) ≡ Some (Not t, rest)
not_again t rest g below = term_not inner (test_words t rest) rest t (begins t rest) (primary_again t most rest g below)

no_and_at_end : sees word.And [] ≡ false
unfolding sees same_kind
no_and_at_end = refl

no_or_at_end : sees word.Or [] ≡ false
unfolding sees same_kind
no_or_at_end = refl

-- chains; of three tests the second has a word, so that there are words enough for two more
three : (i j k : List Word) (a b c : Test) → 0 < length j → terms i ≡ Some (a, bare word.And ∷ j) → terms j ≡ Some (b, bare word.And ∷ k) → terms k ≡ Some (c, []) → product inner i ≡ Some (And (And a b) c, [])
three i j k a b c some is_a is_b is_c =
    product_of inner i (bare word.And ∷ j) [] a (b ∷ c ∷ []) is_a
    (many_two word.And terms (bare word.And) (bare word.And) b c j k [] some (and_here j) is_b (and_here k) is_c no_and_at_end)

any_of : (i j k : List Word) (a b c : Test) → 0 < length j → product inner i ≡ Some (a, bare word.Or ∷ j) → product inner j ≡ Some (b, bare word.Or ∷ k) → product inner k ≡ Some (c, []) → sum inner i ≡ Some (Or (Or a b) c, [])
any_of i j k a b c some is_a is_b is_c =
    sum_of inner i (bare word.Or ∷ j) [] a (b ∷ c ∷ []) is_a
    (many_two word.Or (product inner) (bare word.Or) (bare word.Or) b c j k [] some (or_here j) is_b (or_here k) is_c no_or_at_end)

alone : (i : List Word) (t : Test) → product inner i ≡ Some (t, []) → sum inner i ≡ Some (t, [])
alone i t is = sum_one inner i [] t is no_or_at_end

either : (i j : List Word) (a b : Test) → product inner i ≡ Some (a, bare word.Or ∷ j) → product inner j ≡ Some (b, []) → sum inner i ≡ Some (Or a b, [])
either i j a b is_a is_b = sum_two inner i j [] a b is_a is_b no_or_at_end

to_the_end : (t : Test) (i : List Word) → sum inner i ≡ Some (t, []) → nat_le (levels t) 64 ≡ true → to_end any_test i ≡ Some (t, [])
unfolding any_test ended expect sees after same_kind
to_the_end t i is few = rw (is, few) refl

reads : (d : Dialect) (bytes : List ℕ) (t : Test) (ws : List Word) → words d bytes ≡ Some ws → sum inner ws ≡ Some (t, []) → nat_le (levels t) 64 ≡ true → test_in d bytes ≡ Some t
unfolding test_in
reads d bytes t ws says is few = whole_is any_test d bytes ws [] t says (to_the_end t ws is few)

pub not_and_or_bind_in_turn : Below → NotAndOrBindInTurn
unfolding Rattle.lq_model.specs.declared.test.Test.TheBlock.hidden-the_row-Test-0 denote.Hole.Carrier.hidden
not_and_or_bind_in_turn below d a b c = (
  λ can. let facts = where_facts (And (Not a) b) can in let parts = test_fact below (And (Not a) b) facts.0 in
      reads d _ (And (Not a) b) _ (after_not below d _ _ (before_and below d a _ _ parts.1.0 (at_last below d b parts.1.1)))
      (alone _ _ (product_two inner _ _ [] (Not a) b (not_again a _ parts.0.0 (omega (arith, facts.2))) (term_again b [] parts.0.1 (omega (arith, facts.2))) no_and_at_end)) facts.1,
  λ can. let facts = where_facts (Or (Not a) b) can in let parts = test_fact below (Or (Not a) b) facts.0 in
      reads d _ (Or (Not a) b) _ (after_not below d _ _ (before_or below d a _ _ parts.1.0 (at_last below d b parts.1.1)))
      (either _ _ (Not a) b (product_one inner _ _ (Not a) (not_again a _ parts.0.0 (omega (arith, facts.2))) (no_and_at_or _)) (product_one inner _ [] b (term_again b [] parts.0.1 (omega (arith, facts.2))) no_and_at_end)) facts.1,
  λ can. let facts = where_facts (Or (And a b) c) can in let parts = test_fact below (Or (And a b) c) facts.0 in
      reads d _ (Or (And a b) c) _ (before_and below d a _ _ parts.1.0.0 (before_or below d b _ _ parts.1.0.1 (at_last below d c parts.1.1)))
      (either _ _ (And a b) c
      (product_two inner _ _ _ a b (term_again a _ parts.0.0.0 (omega (arith, facts.2))) (term_again b _ parts.0.0.1 (omega (arith, facts.2))) (no_and_at_or _))
      (product_one inner _ [] c (term_again c [] parts.0.1 (omega (arith, facts.2))) no_and_at_end)) facts.1,
  λ can. let facts = where_facts (Or a (And b c)) can in let parts = test_fact below (Or a (And b c)) facts.0 in
      reads d _ (Or a (And b c)) _ (before_or below d a _ _ parts.1.0 (before_and below d b _ _ parts.1.1.0 (at_last below d c parts.1.1.1)))
      (either _ _ a (And b c)
      (product_one inner _ _ a (term_again a _ parts.0.0 (omega (arith, facts.2))) (no_and_at_or _))
      (product_two inner _ _ [] b c (term_again b _ parts.0.1.0 (omega (arith, facts.2))) (term_again c [] parts.0.1.1 (omega (arith, facts.2))) no_and_at_end)) facts.1,
  λ can. let facts = where_facts (And (And a b) c) can in let parts = test_fact below (And (And a b) c) facts.0 in
      reads d _ (And (And a b) c) _ (before_and below d a _ _ parts.1.0.0 (before_and below d b _ _ parts.1.0.1 (at_last below d c parts.1.1)))
      (alone _ _ (three _ _ _ a b c (test_long b _) (term_again a _ parts.0.0.0 (omega (arith, facts.2))) (term_again b _ parts.0.0.1 (omega (arith, facts.2))) (term_again c [] parts.0.1 (omega (arith, facts.2))))) facts.1,
  λ can. let facts = where_facts (Or (Or a b) c) can in let parts = test_fact below (Or (Or a b) c) facts.0 in
      reads d _ (Or (Or a b) c) _ (before_or below d a _ _ parts.1.0.0 (before_or below d b _ _ parts.1.0.1 (at_last below d c parts.1.1)))
      (any_of _ _ _ a b c (test_long b _)
      (product_one inner _ _ a (term_again a _ parts.0.0.0 (omega (arith, facts.2))) (no_and_at_or _))
      (product_one inner _ _ b (term_again b _ parts.0.0.1 (omega (arith, facts.2))) (no_and_at_or _))
      (product_one inner _ [] c (term_again c [] parts.0.1 (omega (arith, facts.2))) no_and_at_end)) facts.1,
)
