-- What has words is read from them: tests and queries.
use Rattle.std.proofs.Common.{◌≡◌, ◌<◌, ◌≤◌, ℕ, zero, suc, true, false, nat_le, List, [], ◌∷◌, length, Option, None, Some, ap, ◌∙◌, refl, arith}
use Rattle.std.specs.List.{fold}
use Rattle.lq_base.specs.declared.literal.Literal.{Literal}
use Rattle.lq_base.specs.declared.literal.Literal.TheVariants as constant
use Rattle.lq_base.specs.Name.{parts_of}
use Rattle.lq_base.specs.Number.{fixed_text, whole_text}
use Rattle.lq_model.specs.Comparison.{levels}
use Rattle.lq_model.specs.SqlParser.{Parser, after, ended, expect, led_by, many, same_kind, sees, to_end}
use Rattle.lq_model.specs.SqlPart.{literal, name, number}
use Rattle.lq_model.specs.SqlTest.{any_test, comparison, most, nullness, operand, operator, primary, product, sum, term}
use Rattle.lq_model.specs.SqlWord.{bare, with_text}
use Rattle.lq_model.specs.Truth.{Both, Either, Turned}
use Rattle.lq_model.specs.declared.test.Op.{Op}
use Rattle.lq_model.specs.declared.test.Op.TheVariants as op
use Rattle.lq_model.specs.declared.test.Operand.{Operand}
use Rattle.lq_model.specs.declared.test.Operand.TheVariants as side
use Rattle.lq_model.specs.declared.test.Test.{And, Compare, IsNull, Not, NotNull, Or, Test}
use Rattle.lq_model.specs.declared.word.Word.{Word}
use Rattle.lq_model.specs.declared.word.WordKind.{WordKind}
use Rattle.lq_model.specs.declared.word.WordKind.TheVariants as word
use Rattle.lq_parse.proofs.Chains.{many_none, many_one}
use Rattle.lq_parse.proofs.Objects.{IsReadName, name_long, name_word, words_in}

-- the canonical words of a literal, of an operand and of a test, before others

abbrev pub literal_words : Literal → List Word → List Word
literal_words constant.Null rest = bare word.Null ∷ rest
literal_words (constant.Bool true) rest = bare word.True ∷ rest
literal_words (constant.Bool false) rest = bare word.False ∷ rest
literal_words (constant.Text t) rest = with_text word.Text t ∷ rest
literal_words (constant.Int n) rest = with_text word.Number (whole_text n) ∷ rest
literal_words (constant.Fixed units scale) rest = with_text word.Number (fixed_text units scale) ∷ rest

abbrev pub operand_words : Operand → List Word → List Word
operand_words (side.Column c) rest = name_word c rest
operand_words (side.Literal l) rest = literal_words l rest

abbrev pub op_kind : Op → WordKind
op_kind op.Eq = word.Equal
op_kind op.Ne = word.Unequal
op_kind op.Lt = word.Less
op_kind op.Le = word.AtMost
op_kind op.Gt = word.More
op_kind op.Ge = word.AtLeast

abbrev pub test_words : Test → List Word → List Word
test_words (Compare o x y) rest = operand_words x (bare (op_kind o) ∷ operand_words y rest)
test_words (IsNull x) rest = operand_words x (bare word.Is ∷ bare word.Null ∷ rest)
test_words (NotNull x) rest = operand_words x (bare word.Is ∷ bare word.Not ∷ bare word.Null ∷ rest)
test_words (Both a b) rest = bare word.Open ∷ test_words a (bare word.And ∷ test_words b (bare word.Close ∷ rest))
test_words (Either a b) rest = bare word.Open ∷ test_words a (bare word.Or ∷ test_words b (bare word.Close ∷ rest))
test_words (Turned a) rest = bare word.Open ∷ bare word.Not ∷ test_words a (bare word.Close ∷ rest)

-- what is read from its word

abbrev pub IsLiteral : Literal → Type 0
IsLiteral constant.Null = Unit {0}
IsLiteral (constant.Bool b) = Unit {0}
IsLiteral (constant.Text t) = Unit {0}
IsLiteral (constant.Int n) = number (whole_text n) ≡ Some (constant.Int n)
IsLiteral (constant.Fixed units scale) = number (fixed_text units scale) ≡ Some (constant.Fixed units scale)

abbrev pub IsOperand : Operand → Type 0
IsOperand (side.Column c) = IsReadName c
IsOperand (side.Literal l) = IsLiteral l

abbrev pub IsTest : Test → Type 0
IsTest (Compare o x y) = IsOperand x × IsOperand y
IsTest (IsNull x) = IsOperand x
IsTest (NotNull x) = IsOperand x
IsTest (Both a b) = IsTest a × IsTest b
IsTest (Either a b) = IsTest a × IsTest b
IsTest (Turned a) = IsTest a

pub literal_again : (l : Literal) (rest : List Word) → IsLiteral l → literal (literal_words l rest) ≡ Some (l, rest)
unfolding literal
literal_again constant.Null rest h = refl
literal_again (constant.Bool true) rest h = refl
literal_again (constant.Bool false) rest h = refl
literal_again (constant.Text t) rest h = refl
literal_again (constant.Int n) rest h = rw h refl
literal_again (constant.Fixed units scale) rest h = rw h refl

pub operand_again : (x : Operand) (rest : List Word) → IsOperand x → operand (operand_words x rest) ≡ Some (x, rest)
unfolding operand name
operand_again (side.Column c) rest h = rw (h.0, h.1) refl
operand_again (side.Literal constant.Null) rest h = rw (literal_again constant.Null rest h) refl
operand_again (side.Literal (constant.Bool true)) rest h = rw (literal_again (constant.Bool true) rest h) refl
operand_again (side.Literal (constant.Bool false)) rest h = rw (literal_again (constant.Bool false) rest h) refl
operand_again (side.Literal (constant.Text t)) rest h = rw (literal_again (constant.Text t) rest h) refl
operand_again (side.Literal (constant.Int n)) rest h = rw (literal_again (constant.Int n) rest h) refl
operand_again (side.Literal (constant.Fixed units scale)) rest h = rw (literal_again (constant.Fixed units scale) rest h) refl

operator_again : (o : Op) (rest : List Word) → operator (bare (op_kind o) ∷ rest) ≡ Some (o, rest)
unfolding operator
operator_again op.Eq rest = refl
operator_again op.Ne rest = refl
operator_again op.Lt rest = refl
operator_again op.Le rest = refl
operator_again op.Gt rest = refl
operator_again op.Ge rest = refl

no_is : (o : Op) (rest : List Word) → sees word.Is (bare (op_kind o) ∷ rest) ≡ false
unfolding sees same_kind
no_is op.Eq rest = refl
no_is op.Ne rest = refl
no_is op.Lt rest = refl
no_is op.Le rest = refl
no_is op.Gt rest = refl
no_is op.Ge rest = refl

-- a term is what stands there, or its contrary after NOT

pub term_plain : (p : Parser Test) (i : List Word) → sees word.Not i ≡ false → term p i ≡ p i
unfolding term sees
term_plain p [] h = refl
term_plain p (w ∷ i) h = rw h refl

pub term_not : (p : Parser Test) (i j : List Word) (t : Test) → sees word.Not i ≡ false → p i ≡ Some (t, j) → term p (bare word.Not ∷ i) ≡ Some (Not t, j)
unfolding term same_kind
term_not p i j t n e = rw (term_plain p i n, e) refl

-- a product and a sum

pub product_of : (p : Parser Test) (i j l : List Word) (t : Test) (ts : List Test) → term p i ≡ Some (t, j) → many (led_by word.And (term p)) j ≡ Some (ts, l) → product p i ≡ Some (fold And t ts, l)
unfolding product
product_of p i j l t ts is more = rw (is, more) refl

pub sum_of : (p : Parser Test) (i j l : List Word) (t : Test) (ts : List Test) → product p i ≡ Some (t, j) → many (led_by word.Or (product p)) j ≡ Some (ts, l) → sum p i ≡ Some (fold Or t ts, l)
unfolding sum
sum_of p i j l t ts is more = rw (is, more) refl

pub and_here : (i : List Word) → sees word.And (bare word.And ∷ i) ≡ true
unfolding sees same_kind
and_here i = refl

pub or_here : (i : List Word) → sees word.Or (bare word.Or ∷ i) ≡ true
unfolding sees same_kind
or_here i = refl

pub no_and_at_or : (i : List Word) → sees word.And (bare word.Or ∷ i) ≡ false
unfolding sees same_kind
no_and_at_or i = refl

-- a product of one term and of two, before what is no AND

pub product_one : (p : Parser Test) (i j : List Word) (t : Test) → term p i ≡ Some (t, j) → sees word.And j ≡ false → product p i ≡ Some (t, j)
product_one p i j t is end = product_of p i j j t [] is (many_none word.And (term p) j end)

pub product_two : (p : Parser Test) (i j l : List Word) (a b : Test) → term p i ≡ Some (a, bare word.And ∷ j) → term p j ≡ Some (b, l) → sees word.And l ≡ false → product p i ≡ Some (And a b, l)
product_two p i j l a b is_a is_b end = product_of p i (bare word.And ∷ j) l a (b ∷ []) is_a (many_one word.And (term p) (bare word.And) b j l (and_here j) is_b end)

-- likewise a sum, before what is no OR

pub sum_one : (p : Parser Test) (i j : List Word) (t : Test) → product p i ≡ Some (t, j) → sees word.Or j ≡ false → sum p i ≡ Some (t, j)
sum_one p i j t is end = sum_of p i j j t [] is (many_none word.Or (product p) j end)

pub sum_two : (p : Parser Test) (i j l : List Word) (a b : Test) → product p i ≡ Some (a, bare word.Or ∷ j) → product p j ≡ Some (b, l) → sees word.Or l ≡ false → sum p i ≡ Some (Or a b, l)
sum_two p i j l a b is_a is_b end = sum_of p i (bare word.Or ∷ j) l a (b ∷ []) is_a (many_one word.Or (product p) (bare word.Or) b j l (or_here j) is_b end)

flat : (n : ℕ) (i : List Word) → sees word.Open i ≡ false → primary n i ≡ comparison i
unfolding primary after
flat zero i h = refl
flat (suc n) i h = rw h refl

-- what a test goes on with ends it
pub record Ends (i : List Word) : Type 0 where
  pub and : sees word.And i ≡ false
  pub or : sees word.Or i ≡ false

sum_term : (p : Parser Test) (i j : List Word) (t : Test) → term p i ≡ Some (t, j) → Ends j → sum p i ≡ Some (t, j)
sum_term p i j t e end = sum_one p i j t (product_one p i j t e end.and) end.or

sum_and : (p : Parser Test) (i i2 j : List Word) (a b : Test) → sees word.Not i ≡ false → sees word.Not i2 ≡ false → p i ≡ Some (a, bare word.And ∷ i2) → p i2 ≡ Some (b, j) → Ends j
    → sum p i ≡ Some (And a b, j)
sum_and p i i2 j a b n n2 e e2 end = sum_one p i j (And a b) (product_two p i i2 j a b (term_plain p i n ∙ e) (term_plain p i2 n2 ∙ e2) end.and) end.or

sum_or : (p : Parser Test) (i i2 j : List Word) (a b : Test) → sees word.Not i ≡ false → sees word.Not i2 ≡ false → p i ≡ Some (a, bare word.Or ∷ i2) → p i2 ≡ Some (b, j) → Ends j
    → sum p i ≡ Some (Or a b, j)
sum_or p i i2 j a b n n2 e e2 end =
    sum_two p i i2 j a b (product_one p i (bare word.Or ∷ i2) a (term_plain p i n ∙ e) (no_and_at_or i2)) (product_one p i2 j b (term_plain p i2 n2 ∙ e2) end.and) end.or

-- the first word of an operand or a test
name_begins : (n : List ℕ) (o : Option (List ℕ × List ℕ)) (rest : List Word) → (sees word.Not (words_in n o rest) ≡ false) × (sees word.Open (words_in n o rest) ≡ false)
unfolding sees same_kind
name_begins n None rest = (refl, refl)
name_begins n (Some parts) rest = (refl, refl)

operand_begins : (x : Operand) (rest : List Word) → (sees word.Not (operand_words x rest) ≡ false) × (sees word.Open (operand_words x rest) ≡ false)
unfolding sees same_kind
operand_begins (side.Column c) rest = name_begins c (parts_of c) rest
operand_begins (side.Literal constant.Null) rest = (refl, refl)
operand_begins (side.Literal (constant.Bool true)) rest = (refl, refl)
operand_begins (side.Literal (constant.Bool false)) rest = (refl, refl)
operand_begins (side.Literal (constant.Text s)) rest = (refl, refl)
operand_begins (side.Literal (constant.Int n)) rest = (refl, refl)
operand_begins (side.Literal (constant.Fixed u s)) rest = (refl, refl)

operand_long : (x : Operand) (rest : List Word) → 0 < length (operand_words x rest)
operand_long (side.Column c) rest = omega (arith, name_long c rest)
operand_long (side.Literal constant.Null) rest = omega arith
operand_long (side.Literal (constant.Bool true)) rest = omega arith
operand_long (side.Literal (constant.Bool false)) rest = omega arith
operand_long (side.Literal (constant.Text s)) rest = omega arith
operand_long (side.Literal (constant.Int n)) rest = omega arith
operand_long (side.Literal (constant.Fixed u s)) rest = omega arith

-- a test has a word
pub test_long : (t : Test) (rest : List Word) → 0 < length (test_words t rest)
test_long (Compare o x y) rest = operand_long x _
test_long (IsNull x) rest = operand_long x _
test_long (NotNull x) rest = operand_long x _
test_long (Both a b) rest = omega arith
test_long (Either a b) rest = omega arith
test_long (Turned a) rest = omega arith

pub begins : (t : Test) (rest : List Word) → sees word.Not (test_words t rest) ≡ false
unfolding sees same_kind
begins (Compare o x y) rest = (operand_begins x _).0
begins (IsNull x) rest = (operand_begins x _).0
begins (NotNull x) rest = (operand_begins x _).0
begins (Both a b) rest = refl
begins (Either a b) rest = refl
begins (Turned a) rest = refl

open_parens : (n : ℕ) (i j : List Word) (t : Test) → sum (primary n) i ≡ Some (t, bare word.Close ∷ j) → primary (suc n) (bare word.Open ∷ i) ≡ Some (t, j)
unfolding primary sees after same_kind expect
open_parens n i j t e = rw e refl

close_ends : (j : List Word) → Ends (bare word.Close ∷ j)
unfolding sees same_kind
close_ends j = record { and = refl; or = refl }

comparison_again : (o : Op) (x y : Operand) (rest : List Word) → IsOperand x → IsOperand y → comparison (test_words (Compare o x y) rest) ≡ Some (Compare o x y, rest)
unfolding comparison after
comparison_again o x y rest gx gy = rw (operand_again x _ gx, no_is o (operand_words y rest), operator_again o (operand_words y rest), operand_again y rest gy) refl

is_null_again : (x : Operand) (rest : List Word) → IsOperand x → comparison (test_words (IsNull x) rest) ≡ Some (IsNull x, rest)
unfolding comparison after sees same_kind nullness expect
is_null_again x rest g = rw (operand_again x _ g) refl

not_null_again : (x : Operand) (rest : List Word) → IsOperand x → comparison (test_words (NotNull x) rest) ≡ Some (NotNull x, rest)
unfolding comparison after sees same_kind nullness expect
not_null_again x rest g = rw (operand_again x _ g) refl

-- a pattern and its constructor

both_is : (a b : Test) → And a b ≡ Both a b
unfolding Rattle.lq_model.specs.declared.test.Test.TheBlock.hidden-the_row-Test-0 denote.Hole.Carrier.hidden
both_is a b = refl

either_is : (a b : Test) → Or a b ≡ Either a b
unfolding Rattle.lq_model.specs.declared.test.Test.TheBlock.hidden-the_row-Test-0 denote.Hole.Carrier.hidden
either_is a b = refl

turned_is : (a : Test) → Not a ≡ Turned a
unfolding Rattle.lq_model.specs.declared.test.Test.TheBlock.hidden-the_row-Test-0 denote.Hole.Carrier.hidden
turned_is a = refl

pub primary_again : (t : Test) (n : ℕ) (rest : List Word) → IsTest t → levels t ≤ n → primary n (test_words t rest) ≡ Some (t, rest)
primary_again (Compare o x y) n rest g h = flat n _ (operand_begins x _).1 ∙ comparison_again o x y rest g.0 g.1
primary_again (IsNull x) n rest g h = flat n _ (operand_begins x _).1 ∙ is_null_again x rest g
primary_again (NotNull x) n rest g h = flat n _ (operand_begins x _).1 ∙ not_null_again x rest g
primary_again (Both a b) zero rest g h = absurd (omega arith)
primary_again (Either a b) zero rest g h = absurd (omega arith)
primary_again (Turned a) zero rest g h = absurd (omega arith)
primary_again (Both a b) (suc n) rest g h =
    open_parens n _ _ _ (sum_and (primary n) _ _ _ a b (begins a _) (begins b _) (primary_again a n _ g.0 (omega arith)) (primary_again b n _ g.1 (omega arith)) (close_ends rest))
    ∙ ap (λ t. Some (t, rest)) (both_is a b)
primary_again (Either a b) (suc n) rest g h =
    open_parens n _ _ _ (sum_or (primary n) _ _ _ a b (begins a _) (begins b _) (primary_again a n _ g.0 (omega arith)) (primary_again b n _ g.1 (omega arith)) (close_ends rest))
    ∙ ap (λ t. Some (t, rest)) (either_is a b)
primary_again (Turned a) (suc n) rest g h =
    open_parens n _ _ _ (sum_term (primary n) _ _ (Not a) (term_not (primary n) _ _ a (begins a _) (primary_again a n _ g (omega arith))) (close_ends rest))
    ∙ ap (λ t. Some (t, rest)) (turned_is a)

-- a whole test, before what ends it
pub any_test_again : (t : Test) (rest : List Word) → IsTest t → nat_le (levels t) 64 ≡ true → levels t ≤ 64 → Ends rest → any_test (test_words t rest) ≡ Some (t, rest)
unfolding any_test
any_test_again t rest g few below end = rw (sum_term (primary most) _ rest t (term_plain (primary most) _ (begins t rest) ∙ primary_again t most rest g below) end, few) refl

pub nothing_ends : Ends []
unfolding sees same_kind
nothing_ends = record { and = refl; or = refl }

pub whole_test_again : (t : Test) → IsTest t → nat_le (levels t) 64 ≡ true → levels t ≤ 64 → to_end any_test (test_words t []) ≡ Some (t, [])
unfolding ended expect sees after same_kind
whole_test_again t g few below = rw (any_test_again t [] g few below nothing_ends) refl
