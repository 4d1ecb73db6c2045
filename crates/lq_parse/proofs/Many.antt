-- No parser gives words back, and each item of `many` takes one: so `many` goes on as long as an item comes.
use Rattle.std.proofs.Common.{◌≡◌, ◌≤◌, ℕ, zero, suc, Bool, true, false, if◌then◌else◌, List, [], ◌∷◌, length, Option, Some, None, IfSome, ap, refl, arith}
use Rattle.std.specs.List.{fold}
use Rattle.lq_base.specs.declared.literal.Literal.TheVariants as constant
use Rattle.lq_model.specs.SqlParser.{Outcome, Parser, ◌>>=◌, and_more, and_then, after, eat, expect, given, led_by, many, many_of, next, peek, pure, refuse, same_kind, sees, separated, skip, taken}
use Rattle.lq_model.specs.SqlPart.{literal, literal_by, name, name_of, number}
use Rattle.lq_model.specs.SqlTest.{begins_literal, comparison, nullness, operand, operator, operator_by, primary, product, sum, term}
use Rattle.lq_model.specs.SqlWord.{may_be_name}
use Rattle.lq_model.specs.declared.test.Op.TheVariants as op
use Rattle.lq_model.specs.declared.test.Operand.{Operand}
use Rattle.lq_model.specs.declared.test.Operand.TheVariants as side
use Rattle.lq_model.specs.declared.test.Test.{Test}
use Rattle.lq_model.specs.declared.test.Test.TheVariants as test
use Rattle.lq_model.specs.declared.word.Word.{Word}
use Rattle.lq_model.specs.declared.word.WordKind.{WordKind}
use Rattle.lq_model.specs.declared.word.WordKind.TheVariants as word

-- at most so many words are left
abbrev pub LeavesUpTo : {A : Type 0} → ℕ → Outcome A → Type 0
LeavesUpTo n None = Unit {0}
LeavesUpTo n (Some found) = length found.1 ≤ n

-- whatever a parser takes, no more words are left than there were
pub record Shortens {A : Type 0} (p : Parser A) : Type 0 where
  pub at : (i : List Word) → LeavesUpTo (length i) (p i)

leaves_more : {A : Type 0} (o : Outcome A) (n m : ℕ) → n ≤ m → LeavesUpTo n o → LeavesUpTo m o
leaves_more None n m h l = tt
leaves_more (Some found) n m h l = omega (arith, h, l)

leaves_then : {A B : Type 0} (o : Outcome A) (f : A → Parser B) (n : ℕ) → LeavesUpTo n o → ((x : A) → Shortens (f x)) → LeavesUpTo n (and_then o f)
leaves_then None f n l g = tt
leaves_then (Some found) f n l g = leaves_more (f found.0 found.1) (length found.1) n l ((g found.0).at found.1)

leaves_if : {A : Type 0} (b : Bool) (o r : Outcome A) (n : ℕ) → LeavesUpTo n o → LeavesUpTo n r → LeavesUpTo n (if b then o else r)
leaves_if true o r n h g = h
leaves_if false o r n h g = g

pub shortens_then : {A B : Type 0} (p : Parser A) (f : A → Parser B) → Shortens p → ((x : A) → Shortens (f x)) → Shortens (p >>= f)
shortens_then p f h g = record { at = λ i. leaves_then (p i) f (length i) (h.at i) g }

pub shortens_pure : {A : Type 0} (x : A) → Shortens (pure x)
shortens_pure x = record { at = λ i. omega arith }

pub shortens_refuse : {A : Type 0} → Shortens (refuse {A = A})
shortens_refuse = record { at = λ i. tt }

pub shortens_if : {A : Type 0} (b : Bool) (p r : Parser A) → Shortens p → Shortens r → Shortens (if b then p else r)
shortens_if true p r h g = h
shortens_if false p r h g = g

pub shortens_given : {A : Type 0} (o : Option A) → Shortens (given o)
shortens_given None = shortens_refuse
shortens_given (Some x) = shortens_pure x

next_leaves : (i : List Word) → length (next i) ≤ length i
next_leaves [] = omega arith
next_leaves (w ∷ ws) = omega arith

pub shortens_peek : Shortens peek
shortens_peek = record { at = λ i. omega arith }

pub shortens_skip : Shortens skip
shortens_skip = record { at = next_leaves }

pub shortens_taken : Shortens taken
shortens_taken = record { at = next_leaves }

after_leaves : (k : WordKind) (i : List Word) (b : Bool) → length (if b then next i else i) ≤ length i
after_leaves k i true = next_leaves i
after_leaves k i false = omega arith

pub shortens_eat : (k : WordKind) → Shortens (eat k)
unfolding after
shortens_eat k = record { at = λ i. after_leaves k i (sees k i) }

pub shortens_expect : (k : WordKind) → Shortens (expect k)
unfolding expect
shortens_expect k = record { at = λ i. leaves_if (sees k i) (Some (tt, next i)) None (length i) (next_leaves i) tt }

pub shortens_led_by : {A : Type 0} (k : WordKind) (p : Parser A) → Shortens p → Shortens (led_by k p)
unfolding led_by
shortens_led_by k p h = shortens_then (eat k) _ (shortens_eat k) (λ led. shortens_if led _ _ (shortens_then p _ h (λ x. shortens_pure (Some x))) (shortens_pure None))

shortens_more : {A : Type 0} (found : Option A) (more : Parser (List A)) → Shortens more → Shortens (and_more found more)
shortens_more None more h = shortens_pure []
shortens_more (Some x) more h = shortens_then more _ h (λ xs. shortens_pure (x ∷ xs))

shortens_many_of : {A : Type 0} (item : Parser (Option A)) (n : ℕ) → Shortens item → Shortens (many_of item n)
unfolding many_of
shortens_many_of item zero h = shortens_pure []
shortens_many_of item (suc n) h = shortens_then item _ h (λ found. shortens_more found (many_of item n) (shortens_many_of item n h))

pub shortens_many : {A : Type 0} (item : Parser (Option A)) → Shortens item → Shortens (many item)
unfolding many
shortens_many item h = record { at = λ i. (shortens_many_of item (length i) h).at i }

pub shortens_separated : {A : Type 0} (p : Parser A) → Shortens p → Shortens (separated p)
unfolding separated
shortens_separated p h = shortens_then p _ h (λ first. shortens_then (many (led_by word.Comma p)) _ (shortens_many (led_by word.Comma p) (shortens_led_by word.Comma p h)) (λ more. shortens_pure (first ∷ more)))

-- where something is found, fewer words are left
abbrev pub TakesSome : {A : Type 0} → ℕ → Outcome (Option A) → Type 0
TakesSome n None = Unit {0}
TakesSome n (Some found) = IfSome found.0 (λ x. suc (length found.1) ≤ n)

-- an item of `many`: it takes a word where it finds something, and finds nothing at the end
pub record Takes {A : Type 0} (item : Parser (Option A)) : Type 0 where
  pub end : item [] ≡ Some (None, [])
  pub at : (i : List Word) → TakesSome (length i) (item i)

takes_found : {A : Type 0} (o : Outcome A) (n : ℕ) → LeavesUpTo n o → TakesSome (suc n) (and_then o (λ x. pure (Some x)))
takes_found None n l = tt
takes_found (Some found) n l = omega (arith, l)

takes_led : {A : Type 0} (k : WordKind) (p : Parser A) (w : Word) (ws : List Word) (b : Bool) → sees k (w ∷ ws) ≡ b → Shortens p → TakesSome (suc (length ws)) (led_by k p (w ∷ ws))
unfolding led_by after
takes_led k p w ws true is h = rw (is) (takes_found (p ws) (length ws) (h.at ws))
takes_led k p w ws false is h = rw (is) tt

led_at : {A : Type 0} (k : WordKind) (p : Parser A) (i : List Word) → sees k [] ≡ false → Shortens p → TakesSome (length i) (led_by k p i)
unfolding led_by after
led_at k p [] none h = rw (none) tt
led_at k p (w ∷ ws) none h = takes_led k p w ws (sees k (w ∷ ws)) refl h

pub led_by_takes : {A : Type 0} (k : WordKind) (p : Parser A) → sees k [] ≡ false → Shortens p → Takes (led_by k p)
unfolding led_by after
led_by_takes k p none h = record { end = rw (none) refl; at = λ i. led_at k p i none h }

-- how what comes after goes on is asked of fewer words alone
then_more : {A : Type 0} (o : Outcome (Option A)) (n : ℕ) (f g : Parser (List A)) → TakesSome n o → ((j : List Word) → suc (length j) ≤ n → f j ≡ g j)
    → and_then o (λ found. and_more found f) ≡ and_then o (λ found. and_more found g)
then_more None n f g t same = refl
then_more (Some (None, j)) n f g t same = refl
then_more (Some (Some x, j)) n f g t same = ap (λ o. and_then o (λ xs. pure (x ∷ xs))) (same j t)

-- more turns than there are words change nothing
enough : {A : Type 0} (item : Parser (Option A)) (n m : ℕ) (i : List Word) → Takes item → length i ≤ n → length i ≤ m → many_of item n i ≡ many_of item m i
unfolding many_of
enough item zero zero i t a b = refl
enough item zero (suc m) [] t a b = rw (t.end) refl
enough item zero (suc m) (w ∷ ws) t a b = absurd (omega arith)
enough item (suc n) zero [] t a b = rw (t.end) refl
enough item (suc n) zero (w ∷ ws) t a b = absurd (omega arith)
enough item (suc n) (suc m) i t a b = then_more (item i) (length i) (many_of item n) (many_of item m) (t.at i) (λ j fewer. enough item n m j t (omega arith) (omega arith))

-- one turn, and then as many as come
pub many_turn : {A : Type 0} (item : Parser (Option A)) (i : List Word) → Takes item → many item i ≡ and_then (item i) (λ found. and_more found (many item))
unfolding many many_of
many_turn item [] t = rw (t.end) refl
many_turn item (w ∷ ws) t =
    then_more (item (w ∷ ws)) (suc (length ws)) (many_of item (length ws)) (many item) (t.at (w ∷ ws)) (λ j fewer. enough item (length ws) (length j) j t (omega arith) (omega arith))

-- what the grammar of tests takes

pub shortens_name : Shortens name
unfolding name
shortens_name = shortens_then peek _ shortens_peek (λ found. shortens_if (may_be_name found) _ _ (shortens_then taken _ shortens_taken (λ it. shortens_given (name_of it))) shortens_refuse)

pub shortens_literal : Shortens literal
unfolding literal
shortens_literal = shortens_then peek literal_by shortens_peek by
  where
    by : (k : WordKind) → Shortens (literal_by k)
    by word.Null = shortens_then skip _ shortens_skip (λ it. shortens_pure constant.Null)
    by word.True = shortens_then skip _ shortens_skip (λ it. shortens_pure (constant.Bool true))
    by word.False = shortens_then skip _ shortens_skip (λ it. shortens_pure (constant.Bool false))
    by word.Text = shortens_then taken _ shortens_taken (λ it. shortens_pure (constant.Text it))
    by word.Number = shortens_then taken _ shortens_taken (λ it. shortens_given (number it))
    by _ = shortens_refuse

pub shortens_operand : Shortens operand
unfolding operand
shortens_operand =
    shortens_then peek _ shortens_peek (λ found. shortens_if (begins_literal found) _ _
    (shortens_then literal _ shortens_literal (λ it. shortens_pure (side.Literal it)))
    (shortens_then name _ shortens_name (λ it. shortens_pure (side.Column it))))

pub shortens_operator : Shortens operator
unfolding operator
shortens_operator = shortens_then peek operator_by shortens_peek by
  where
    by : (k : WordKind) → Shortens (operator_by k)
    by word.Equal = shortens_then skip _ shortens_skip (λ it. shortens_pure op.Eq)
    by word.Unequal = shortens_then skip _ shortens_skip (λ it. shortens_pure op.Ne)
    by word.Less = shortens_then skip _ shortens_skip (λ it. shortens_pure op.Lt)
    by word.AtMost = shortens_then skip _ shortens_skip (λ it. shortens_pure op.Le)
    by word.More = shortens_then skip _ shortens_skip (λ it. shortens_pure op.Gt)
    by word.AtLeast = shortens_then skip _ shortens_skip (λ it. shortens_pure op.Ge)
    by _ = shortens_refuse

pub shortens_nullness : (x : Operand) → Shortens (nullness x)
unfolding nullness
shortens_nullness x = shortens_then (eat word.Not) _ (shortens_eat word.Not) (λ negated. shortens_then (expect word.Null) _ (shortens_expect word.Null) (λ it. shortens_pure (if negated then test.NotNull x else test.IsNull x)))

pub shortens_comparison : Shortens comparison
unfolding comparison
shortens_comparison =
    shortens_then operand _ shortens_operand (λ x. shortens_then (eat word.Is) _ (shortens_eat word.Is) (λ is. shortens_if is _ _
    (shortens_nullness x)
    (shortens_then operator _ shortens_operator (λ o. shortens_then operand _ shortens_operand (λ y. shortens_pure (test.Compare o x y))))))

term_leaves : (p : Parser Test) (i : List Word) → Shortens p → LeavesUpTo (length i) (term p i)
unfolding term
term_leaves p [] h = h.at []
term_leaves p (w ∷ ws) h =
    leaves_if (same_kind w.kind word.Not) (and_then (term p ws) (λ t. pure (test.Not t))) (p (w ∷ ws)) (suc (length ws))
    (leaves_then (term p ws) (λ t. pure (test.Not t)) (suc (length ws)) (leaves_more (term p ws) (length ws) (suc (length ws)) (omega arith) (term_leaves p ws h)) (λ t. shortens_pure (test.Not t)))
    (h.at (w ∷ ws))

pub shortens_term : (p : Parser Test) → Shortens p → Shortens (term p)
shortens_term p h = record { at = λ i. term_leaves p i h }

pub shortens_product : (p : Parser Test) → Shortens p → Shortens (product p)
unfolding product
shortens_product p h =
    let inner = shortens_term p h in
    shortens_then (term p) _ inner (λ first. shortens_then (many (led_by word.And (term p))) _ (shortens_many (led_by word.And (term p)) (shortens_led_by word.And (term p) inner)) (λ more. shortens_pure (fold test.And first more)))

pub shortens_sum : (p : Parser Test) → Shortens p → Shortens (sum p)
unfolding sum
shortens_sum p h =
    let inner = shortens_product p h in
    shortens_then (product p) _ inner (λ first. shortens_then (many (led_by word.Or (product p))) _ (shortens_many (led_by word.Or (product p)) (shortens_led_by word.Or (product p) inner)) (λ more. shortens_pure (fold test.Or first more)))

pub shortens_primary : (n : ℕ) → Shortens (primary n)
unfolding primary
shortens_primary zero = shortens_comparison
shortens_primary (suc n) =
    shortens_then (eat word.Open) _ (shortens_eat word.Open) (λ opened. shortens_if opened _ _
    (shortens_then (sum (primary n)) _ (shortens_sum (primary n) (shortens_primary n)) (λ t. shortens_then (expect word.Close) _ (shortens_expect word.Close) (λ it. shortens_pure t)))
    shortens_comparison)
