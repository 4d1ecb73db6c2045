-- What is read can be written.
use Rattle.std.proofs.Common.{◌≡◌, ℕ, zero, suc, Bool, true, false, nat_le, ◌&&◌, if◌then◌else◌, List, [], ◌∷◌, ◌++◌, length, Option, Some, None, IfSome, ◌∙◌, refl, tests}
use Rattle.std.specs.List.{fold, list_all}
use Rattle.std.proofs.lemmas.Bool.{and_from}
use Rattle.std.proofs.lemmas.List.Folds.{list_all-append}
use Rattle.lq_base.proofs.NameLemmas.{is_name_key_name, keys_tell_names}
use Rattle.lq_base.specs.Name.{is_name, is_object, within}
use Rattle.lq_base.specs.declared.dialect.Dialect.{Dialect}
use Rattle.lq_base.specs.declared.dialect.Dialect.TheVariants.{Mysql, Postgresql}
use Rattle.lq_base.specs.declared.literal.Literal.{Literal}
use Rattle.lq_base.specs.declared.literal.Literal.TheVariants as constant
use Rattle.lq_model.specs.Comparison.{is_literal, levels, operand_literals, test_literals}
use Rattle.lq_model.specs.SqlParser.{Outcome, Parser, ◌>>=◌, and_more, and_then, eat, ended, expect, given, led_by, many, many_of, peek, pure, refuse, same_kind, separated, skip, taken, to_end}
use Rattle.lq_model.specs.SqlPart.{literal, literal_by, name, name_of, number, object, qualified}
use Rattle.lq_model.specs.SqlTest.{any_test, begins_literal, comparison, most, nullness, operand, operator, primary, product, sum, term, where_test}
use Rattle.lq_model.specs.SqlWord.{may_be_name}
use Rattle.lq_model.specs.Truth.{operand_names, test_names}
use Rattle.lq_model.specs.declared.test.Operand.{Operand}
use Rattle.lq_model.specs.declared.test.Operand.TheVariants as side
use Rattle.lq_model.specs.declared.test.Test.{And, Not, Or, Test}
use Rattle.lq_model.specs.declared.test.Test.TheVariants as test
use Rattle.lq_model.specs.declared.word.Word.{Word}
use Rattle.lq_model.specs.declared.word.WordKind.{WordKind}
use Rattle.lq_model.specs.declared.word.WordKind.TheVariants as word
use Rattle.lq_parse.proofs.Written.{Facts}

-- all that a parser gives is so
pub record Makes {A : Type 0} (P : A → Type 0) (p : Parser A) : Type 0 where
  pub at : (i : List Word) → IfSome (p i) (λ found. P found.0)

abbrev pub Whatever : {A : Type 0} → A → Type 0
Whatever x = Unit {0}

pub makes_any : {A : Type 0} (p : Parser A) → Makes Whatever p
makes_any p = record { at = λ i. elim (p i) as (λ o. IfSome o (λ found. Unit {0})) [ None ↦ tt | Some found ↦ tt ] }

pub makes_then : {A B : Type 0} (P : A → Type 0) (Q : B → Type 0) (p : Parser A) (f : A → Parser B) → Makes P p → ((x : A) → P x → Makes Q (f x)) → Makes Q (p >>= f)
makes_then P Q p f h g = record {
  at = λ i.
      elim (p i) as (λ o. IfSome o (λ found. P found.0) → IfSome (and_then o f) (λ found. Q found.0)) [
        | None ↦ λ q. tt
        | Some found ↦ λ q. (g found.0 q).at found.1
      ] (h.at i);
}

-- after what is read and forgotten
pub makes_after : {A B : Type 0} (Q : B → Type 0) (p : Parser A) (f : A → Parser B) → ((x : A) → Makes Q (f x)) → Makes Q (p >>= f)
makes_after Q p f g = makes_then Whatever Q p f (makes_any p) (λ x h. g x)

pub makes_pure : {A : Type 0} (P : A → Type 0) (x : A) → P x → Makes P (pure x)
makes_pure P x h = record { at = λ i. h }

pub makes_refuse : {A : Type 0} (P : A → Type 0) → Makes P refuse
makes_refuse P = record { at = λ i. tt }

pub makes_if : {A : Type 0} (P : A → Type 0) (b : Bool) (p r : Parser A) → Makes P p → Makes P r → Makes P (if b then p else r)
makes_if P true p r h g = h
makes_if P false p r h g = g

-- the same where the test is known in the first branch
pub makes_tested : {A : Type 0} (P : A → Type 0) (b : Bool) (p r : Parser A) → (b ≡ true → Makes P p) → Makes P r → Makes P (if b then p else r)
makes_tested P true p r h g = h refl
makes_tested P false p r h g = g

pub makes_given : {A : Type 0} (P : A → Type 0) (o : Option A) → IfSome o P → Makes P (given o)
makes_given P None h = record { at = λ i. tt }
makes_given P (Some x) h = record { at = λ i. h }

-- what is found under a test
pub if_some : {A : Type 0} (P : A → Type 0) (b : Bool) (x : A) → (b ≡ true → P x) → IfSome (if b then Some x else None) P
if_some P true x h = h refl
if_some P false x h = tt

-- names

abbrev pub IsNameText : List ℕ → Type 0
IsNameText n = is_name n ≡ true

pub name_of_makes : (bytes : List ℕ) → IfSome (name_of bytes) IsNameText
unfolding name_of
name_of_makes bytes = if_some IsNameText (is_name bytes) bytes (λ is. is)

pub name_makes : Makes IsNameText name
unfolding name
name_makes =
    makes_after IsNameText peek _ (λ found. makes_if IsNameText (may_be_name found) _ _
    (makes_after IsNameText taken _ (λ it. makes_given IsNameText (name_of it) (name_of_makes it)))
    (makes_refuse IsNameText))

-- names of objects

abbrev pub IsObjectText : Dialect → List ℕ → Type 0
IsObjectText d n = is_object d n ≡ true

qualified_makes : (schema text : List ℕ) → IsNameText schema → IsNameText text → IfSome (qualified schema text) (IsObjectText Postgresql)
qualified_makes schema text h g = if_some (IsObjectText Postgresql) (is_name schema && is_name text) (within schema text) (λ both. (keys_tell_names schema text h g).0)

pub object_makes : (d : Dialect) → Makes (IsObjectText d) (object d)
unfolding object
object_makes Mysql = name_makes
object_makes Postgresql =
    makes_then IsNameText (IsObjectText Postgresql) name _ name_makes (λ first h. makes_after (IsObjectText Postgresql) (eat word.Dot) _ (λ more. makes_if (IsObjectText Postgresql) more _ _
    (makes_then IsNameText (IsObjectText Postgresql) name _ name_makes (λ text g. makes_given (IsObjectText Postgresql) (qualified first text) (qualified_makes first text h g)))
    (makes_pure (IsObjectText Postgresql) first (is_name_key_name first h))))

-- lists

abbrev pub AllSo : {A : Type 0} → (A → Type 0) → List A → Type 0
AllSo P [] = Unit {0}
AllSo P (x ∷ xs) = P x × AllSo P xs

-- some, and each is so
abbrev pub SomeSo : {A : Type 0} → (A → Type 0) → List A → Type 0
SomeSo P [] = ⊥
SomeSo P (x ∷ xs) = AllSo P (x ∷ xs)

-- what may have been found is so
abbrev pub MaybeSo : {A : Type 0} → (A → Type 0) → Option A → Type 0
MaybeSo P o = IfSome o P

more_makes : {A : Type 0} (P : A → Type 0) (found : Option A) (more : Parser (List A)) → MaybeSo P found → Makes (AllSo P) more → Makes (AllSo P) (and_more found more)
more_makes P None more is h = makes_pure (AllSo P) [] tt
more_makes P (Some x) more is h = makes_then (AllSo P) (AllSo P) more _ h (λ xs are. makes_pure (AllSo P) (x ∷ xs) (is, are))

many_of_makes : {A : Type 0} (P : A → Type 0) (item : Parser (Option A)) (n : ℕ) → Makes (MaybeSo P) item → Makes (AllSo P) (many_of item n)
unfolding many_of
many_of_makes P item zero h = makes_pure (AllSo P) [] tt
many_of_makes P item (suc n) h = makes_then (MaybeSo P) (AllSo P) item _ h (λ found is. more_makes P found (many_of item n) is (many_of_makes P item n h))

pub many_makes : {A : Type 0} (P : A → Type 0) (item : Parser (Option A)) → Makes (MaybeSo P) item → Makes (AllSo P) (many item)
unfolding many
many_makes P item h = record { at = λ i. (many_of_makes P item (length i) h).at i }

pub led_makes : {A : Type 0} (P : A → Type 0) (k : WordKind) (item : Parser A) → Makes P item → Makes (MaybeSo P) (led_by k item)
unfolding led_by
led_makes P k item h =
    makes_after (MaybeSo P) (eat k) _ (λ led. makes_if (MaybeSo P) led _ _
    (makes_then P (MaybeSo P) item _ h (λ x is. makes_pure (MaybeSo P) (Some x) is))
    (makes_pure (MaybeSo P) None tt))

pub separated_makes : {A : Type 0} (P : A → Type 0) (item : Parser A) → Makes P item → Makes (SomeSo P) (separated item)
unfolding separated
separated_makes P item h =
    makes_then P (SomeSo P) item _ h (λ x is. makes_then (AllSo P) (SomeSo P) (many (led_by word.Comma item)) _ (many_makes P (led_by word.Comma item) (led_makes P word.Comma item h)) (λ xs are.
    makes_pure (SomeSo P) (x ∷ xs) (is, are)))

-- literals

abbrev pub IsLiteralText : Literal → Type 0
IsLiteralText l = is_literal l ≡ true

pub literal_makes : ((bytes : List ℕ) → IfSome (number bytes) IsLiteralText) → Makes IsLiteralText literal
unfolding literal
literal_makes numbers = makes_after IsLiteralText peek literal_by by
  where
    by : (k : WordKind) → Makes IsLiteralText (literal_by k)
    by word.Null = makes_after IsLiteralText skip _ (λ it. makes_pure IsLiteralText constant.Null refl)
    by word.True = makes_after IsLiteralText skip _ (λ it. makes_pure IsLiteralText (constant.Bool true) refl)
    by word.False = makes_after IsLiteralText skip _ (λ it. makes_pure IsLiteralText (constant.Bool false) refl)
    by word.Text = makes_after IsLiteralText taken _ (λ it. makes_pure IsLiteralText (constant.Text it) refl)
    by word.Number = makes_after IsLiteralText taken _ (λ it. makes_given IsLiteralText (number it) (numbers it))
    by _ = makes_refuse IsLiteralText

-- tests

abbrev pub IsOperandText : Operand → Type 0
IsOperandText x = Facts (operand_names x) (operand_literals x)

abbrev pub IsTestText : Test → Type 0
IsTestText t = Facts (test_names t) (test_literals t)

pub one : {A : Type 0} (p : A → Bool) (x : A) → p x ≡ true → list_all p (x ∷ []) ≡ true
one p x is = rw is refl

operand_makes : Makes IsLiteralText literal → Makes IsOperandText operand
unfolding operand
operand_makes literals =
    makes_after IsOperandText peek _ (λ found. makes_if IsOperandText (begins_literal found) _ _
    (makes_then IsLiteralText IsOperandText literal _ literals (λ l is. makes_pure IsOperandText (side.Literal l)
    (record { are_names = refl; are_literals = one is_literal l is })))
    (makes_then IsNameText IsOperandText name _ name_makes (λ n is. makes_pure IsOperandText (side.Column n)
    (record { are_names = one is_name n is; are_literals = refl }))))

pub all_join : {A : Type 0} (p : A → Bool) (xs ys : List A) → list_all p xs ≡ true → list_all p ys ≡ true → list_all p (xs ++ ys) ≡ true
all_join p xs ys a b = list_all-append p xs ys ∙ and_from (list_all p xs) (list_all p ys) a b

facts_join : (ns ms : List (List ℕ)) (ls ks : List Literal) → Facts ns ls → Facts ms ks → Facts (ns ++ ms) (ls ++ ks)
facts_join ns ms ls ks a b = record {
  are_names = all_join is_name ns ms a.are_names b.are_names;
  are_literals = all_join is_literal ls ks a.are_literals b.are_literals;
}

and_text : (a b : Test) → IsTestText a → IsTestText b → IsTestText (And a b)
unfolding Rattle.lq_model.specs.declared.test.Test.TheBlock.hidden-the_row-Test-0 denote.Hole.Carrier.hidden
and_text a b f g = facts_join (test_names a) (test_names b) (test_literals a) (test_literals b) f g

or_text : (a b : Test) → IsTestText a → IsTestText b → IsTestText (Or a b)
unfolding Rattle.lq_model.specs.declared.test.Test.TheBlock.hidden-the_row-Test-0 denote.Hole.Carrier.hidden
or_text a b f g = facts_join (test_names a) (test_names b) (test_literals a) (test_literals b) f g

not_text : (a : Test) → IsTestText a → IsTestText (Not a)
unfolding Rattle.lq_model.specs.declared.test.Test.TheBlock.hidden-the_row-Test-0 denote.Hole.Carrier.hidden
not_text a f = f

null_text : (negated : Bool) (x : Operand) → IsOperandText x → IsTestText (if negated then test.NotNull x else test.IsNull x)
null_text true x f = f
null_text false x f = f

nullness_makes : (x : Operand) → IsOperandText x → Makes IsTestText (nullness x)
unfolding nullness
nullness_makes x f = makes_after IsTestText (eat word.Not) _ (λ negated. makes_after IsTestText (expect word.Null) _ (λ it. makes_pure IsTestText (if negated then test.NotNull x else test.IsNull x) (null_text negated x f)))

comparison_makes : Makes IsOperandText operand → Makes IsTestText comparison
unfolding comparison
comparison_makes operands =
    makes_then IsOperandText IsTestText operand _ operands (λ x f. makes_after IsTestText (eat word.Is) _ (λ is. makes_if IsTestText is _ _
    (nullness_makes x f)
    (makes_after IsTestText operator _ (λ o. makes_then IsOperandText IsTestText operand _ operands (λ y g. makes_pure IsTestText (test.Compare o x y)
    (facts_join (operand_names x) (operand_names y) (operand_literals x) (operand_literals y) f g))))))

turned_makes : (found : Outcome Test) → IfSome found (λ it. IsTestText it.0) → IfSome (and_then found (λ t. pure (test.Not t))) (λ it. IsTestText it.0)
turned_makes None h = tt
turned_makes (Some found) h = not_text found.0 h

term_at : (p : Parser Test) → Makes IsTestText p → (i : List Word) → IfSome (term p i) (λ it. IsTestText it.0)
unfolding term
term_at p h [] = h.at []
term_at p h (w ∷ i) =
    elim (same_kind w.kind word.Not) as (λ negated. IfSome (if negated then and_then (term p i) (λ t. pure (test.Not t)) else p (w ∷ i)) (λ it. IsTestText it.0)) [
      | true ↦ turned_makes (term p i) (term_at p h i)
      | false ↦ h.at (w ∷ i)
    ]

term_makes : (p : Parser Test) → Makes IsTestText p → Makes IsTestText (term p)
term_makes p h = record { at = λ i. term_at p h i }

-- tests that are joined to the left
fold_text : (join : Test → Test → Test) → ((a b : Test) → IsTestText a → IsTestText b → IsTestText (join a b)) → (ts : List Test) (t : Test) → IsTestText t → AllSo IsTestText ts → IsTestText (fold join t ts)
fold_text join joined [] t f each = f
fold_text join joined (u ∷ ts) t f each = fold_text join joined ts (join t u) (joined t u f each.0) each.1

product_makes : (p : Parser Test) → Makes IsTestText p → Makes IsTestText (product p)
unfolding product
product_makes p h =
    let inner = term_makes p h in
    makes_then IsTestText IsTestText (term p) _ inner (λ first f. makes_then (AllSo IsTestText) IsTestText (many (led_by word.And (term p))) _ (many_makes IsTestText (led_by word.And (term p)) (led_makes IsTestText word.And (term p) inner)) (λ more each.
    makes_pure IsTestText (fold test.And first more) (fold_text test.And and_text more first f each)))

sum_makes : (p : Parser Test) → Makes IsTestText p → Makes IsTestText (sum p)
unfolding sum
sum_makes p h =
    let inner = product_makes p h in
    makes_then IsTestText IsTestText (product p) _ inner (λ first f. makes_then (AllSo IsTestText) IsTestText (many (led_by word.Or (product p))) _ (many_makes IsTestText (led_by word.Or (product p)) (led_makes IsTestText word.Or (product p) inner)) (λ more each.
    makes_pure IsTestText (fold test.Or first more) (fold_text test.Or or_text more first f each)))

primary_makes : Makes IsTestText comparison → (parentheses : ℕ) → Makes IsTestText (primary parentheses)
unfolding primary
primary_makes h zero = h
primary_makes h (suc parentheses) =
    makes_after IsTestText (eat word.Open) _ (λ opened. makes_if IsTestText opened _ _
    (makes_then IsTestText IsTestText (sum (primary parentheses)) _ (sum_makes (primary parentheses) (primary_makes h parentheses)) (λ t f. makes_after IsTestText (expect word.Close) _ (λ it. makes_pure IsTestText t f)))
    h)

-- a whole test, of 64 levels at most
abbrev pub IsWholeTest : Test → Type 0
IsWholeTest t = IsTestText t × (nat_le (levels t) 64 ≡ true)

pub any_test_makes : Makes IsLiteralText literal → Makes IsWholeTest any_test
unfolding any_test
any_test_makes literals =
    makes_then IsTestText IsWholeTest (sum (primary most)) _ (sum_makes (primary most) (primary_makes (comparison_makes (operand_makes literals)) most)) (λ t f.
    makes_tested IsWholeTest (nat_le (levels t) most) _ _ (λ few. makes_pure IsWholeTest t (f, few)) (makes_refuse IsWholeTest))

abbrev pub IsWholeWhere : Option Test → Type 0
IsWholeWhere o = IfSome o IsWholeTest

pub where_makes : Makes IsWholeTest any_test → Makes IsWholeWhere where_test
unfolding where_test
where_makes tests =
    makes_after IsWholeWhere (eat word.Where) _ (λ found. makes_if IsWholeWhere found _ _
    (makes_then IsWholeTest IsWholeWhere any_test _ tests (λ t f. makes_pure IsWholeWhere (Some t) f))
    (makes_pure IsWholeWhere None tt))

-- what is read to the end of a text
pub to_end_makes : {A : Type 0} (P : A → Type 0) (p : Parser A) → Makes P p → Makes P (to_end p)
unfolding ended
to_end_makes P p h = makes_then P P p ended h (λ x f. makes_after P (eat word.Semicolon) _ (λ semicolon. makes_after P (expect word.End) _ (λ it. makes_pure P x f)))
