-- Tests and queries over an unquoted word that is not reserved.
use Rattle.std.proofs.Common.{◌≡◌, ℕ, zero, suc, Bool, true, false, nat_le, if◌then◌else◌, List, [], ◌∷◌, ◌++◌, ◌&&◌, Some, None, inl, ap, ◌∙◌, sym, refl}
use Rattle.std.specs.List.{fold}
use Rattle.lq_model.specs.Comparison.{levels}
use Rattle.lq_model.specs.SqlParser.{Parser, ◌>>=◌, and_then, eat, expect, led_by, many, pure, same_kind, sees, separated, skip}
use Rattle.lq_model.specs.SqlPart.{literal, name, object}
use Rattle.lq_model.specs.SqlQuery.{columns, count, peek_count, query, sees_count, selected}
use Rattle.lq_model.specs.SqlTest.{any_test, begins_literal, comparison, most, nullness, operand, operator, operator_by, primary, product, sum, term, where_test}
use Rattle.lq_model.specs.SqlWord.{with_text}
use Rattle.lq_model.specs.declared.query.Wanted.{Wanted}
use Rattle.lq_model.specs.declared.query.Wanted.TheVariants as wanted
use Rattle.lq_model.specs.declared.test.Op.TheVariants as op
use Rattle.lq_model.specs.declared.test.Operand.{Operand}
use Rattle.lq_model.specs.declared.test.Operand.TheVariants as side
use Rattle.lq_model.specs.declared.test.Test.{Test}
use Rattle.lq_model.specs.declared.test.Test.TheVariants as test
use Rattle.lq_model.specs.declared.word.Word.{Word}
use Rattle.lq_model.specs.declared.word.WordKind.{WordKind}
use Rattle.lq_model.specs.declared.word.WordKind.TheVariants as word
use Rattle.lq_spelling.proofs.ServeKinds as loose
use Rattle.lq_spelling.proofs.ServeKinds.{Loose, apart, kind_at, kind_of}
use Rattle.lq_spelling.proofs.ServeNames.{serves_literal, serves_name, serves_object}
use Rattle.lq_spelling.proofs.ServeParts.{Goes, Serves, Tells, alike, said_there, serves_eat, serves_expect, serves_if, serves_led, serves_many, serves_peek, serves_pure, serves_refuse, serves_separated, serves_skip, serves_then, then_at}
use Rattle.lq_base.specs.declared.dialect.Dialect.{Dialect}

begins_same : (l : Loose) → begins_literal word.Quoted ≡ begins_literal (kind_of l)
begins_same loose.Plain = refl
begins_same _ = refl

serves_operand : Serves operand
unfolding operand
serves_operand =
    serves_peek _ (λ l. inl (λ i. ap (λ begun. (if begun then literal >>= (λ it. pure (side.Literal it)) else name >>= (λ column. pure (side.Column column))) i) (begins_same l)))
    (λ k. serves_if (begins_literal k) _ _ (serves_then literal _ serves_literal (λ it. serves_pure (side.Literal it))) (serves_then name _ serves_name (λ column. serves_pure (side.Column column))))

serves_operator : Serves operator
unfolding operator
serves_operator =
    serves_peek operator_by tells by
  where
    tells : Tells operator_by
    tells loose.Plain = inl (λ i. refl)
    tells _ = inl (λ i. refl)

    by : (k : WordKind) → Serves (operator_by k)
    by word.Equal = serves_then skip _ serves_skip (λ it. serves_pure op.Eq)
    by word.Unequal = serves_then skip _ serves_skip (λ it. serves_pure op.Ne)
    by word.Less = serves_then skip _ serves_skip (λ it. serves_pure op.Lt)
    by word.AtMost = serves_then skip _ serves_skip (λ it. serves_pure op.Le)
    by word.More = serves_then skip _ serves_skip (λ it. serves_pure op.Gt)
    by word.AtLeast = serves_then skip _ serves_skip (λ it. serves_pure op.Ge)
    by _ = serves_refuse

serves_nullness : (x : Operand) → Serves (nullness x)
unfolding nullness
serves_nullness x =
    serves_then (eat word.Not) _ (serves_eat word.Not refl) (λ negated. serves_then (expect word.Null) _ (serves_expect word.Null) (λ a. serves_pure (if negated then test.NotNull x else test.IsNull x)))

serves_comparison : Serves comparison
unfolding comparison
serves_comparison =
    serves_then operand _ serves_operand (λ x. serves_then (eat word.Is) _ (serves_eat word.Is refl) (λ found. serves_if found _ _ (serves_nullness x)
    (serves_then operator _ serves_operator (λ o. serves_then operand _ serves_operand (λ y. serves_pure (test.Compare o x y))))))

serves_term : (p : Parser Test) → Serves p → Serves (term p)
unfolding term
serves_term p is =
    record { at = by }
  where
    no_not : (l : Loose) (back : List Word) (unquoted : Bool) (t : List ℕ) → term p (with_text (kind_at l unquoted) t ∷ back) ≡ p (with_text (kind_at l unquoted) t ∷ back)
    no_not l back unquoted t = rw (apart l unquoted word.Not refl) refl

    by_flag : (l : Loose) (said : List ℕ) (y : Word) (front back : List Word) → Goes l said back (λ w. term p (front ++ w ∷ back)) → (negated : Bool)
        → Goes l said back (λ w. if negated then and_then (term p (front ++ w ∷ back)) (λ t. pure (test.Not t)) else p (y ∷ (front ++ w ∷ back)))
    by_flag l said y front back more true = then_at l said back (λ w. term p (front ++ w ∷ back)) _ more (λ t. serves_pure (test.Not t))
    by_flag l said y front back more false = is.at l said (y ∷ front) back

    by : (l : Loose) (said : List ℕ) (front back : List Word) → Goes l said back (λ w. term p (front ++ w ∷ back))
    by l said [] back = alike l said back (λ w. term p (w ∷ back)) (λ w. p (w ∷ back)) (no_not l back) (is.at l said [] back)
    by l said (y ∷ front) back = by_flag l said y front back (by l said front back) (same_kind y.kind word.Not)

serves_product : (p : Parser Test) → Serves p → Serves (product p)
unfolding product
serves_product p is =
    serves_then (term p) _ (serves_term p is) (λ first. serves_then (many (led_by word.And (term p))) _ (serves_many _ (serves_led word.And refl (term p) (serves_term p is)))
    (λ more. serves_pure (fold test.And first more)))

serves_sum : (p : Parser Test) → Serves p → Serves (sum p)
unfolding sum
serves_sum p is =
    serves_then (product p) _ (serves_product p is) (λ first. serves_then (many (led_by word.Or (product p))) _ (serves_many _ (serves_led word.Or refl (product p) (serves_product p is)))
    (λ more. serves_pure (fold test.Or first more)))

serves_primary : (n : ℕ) → Serves (primary n)
unfolding primary
serves_primary zero = serves_comparison
serves_primary (suc n) =
    serves_then (eat word.Open) _ (serves_eat word.Open refl) (λ opened. serves_if opened _ _
    (serves_then (sum (primary n)) _ (serves_sum (primary n) (serves_primary n)) (λ t. serves_then (expect word.Close) _ (serves_expect word.Close) (λ a. serves_pure t)))
    serves_comparison)

serves_any : Serves any_test
unfolding any_test
serves_any = serves_then (sum (primary most)) _ (serves_sum (primary most) (serves_primary most)) (λ t. serves_if (nat_le (levels t) most) _ _ (serves_pure t) serves_refuse)

pub serves_where : Serves where_test
unfolding where_test
serves_where =
    serves_then (eat word.Where) _ (serves_eat word.Where refl) (λ found. serves_if found _ _ (serves_then any_test _ serves_any (λ t. serves_pure (Some t))) (serves_pure None))

-- queries

serves_count : Serves count
unfolding count
serves_count =
    serves_then (expect word.Count) _ (serves_expect word.Count) (λ a. serves_then (expect word.Open) _ (serves_expect word.Open) (λ b.
    serves_then (expect word.Star) _ (serves_expect word.Star) (λ c. serves_then (expect word.Close) _ (serves_expect word.Close) (λ e. serves_pure wanted.Count))))

serves_columns : Serves columns
unfolding columns
serves_columns = serves_then (separated name) _ (serves_separated name serves_name) (λ names. serves_pure (wanted.Columns names))

-- the count or columns, by the next two words
abbrev chosen : Parser Wanted
chosen = peek_count >>= (λ counted. if counted then count else columns)

-- COUNT is read alike whatever its text
count_same : (l : Loose) (said t : List ℕ) (back : List Word) → count (with_text (kind_of l) t ∷ back) ≡ count (with_text (kind_of l) said ∷ back)
unfolding count expect sees
count_same l said t back = refl

sees_here : (l : Loose) (t : List ℕ) (back : List Word) → sees_count (with_text (kind_of l) t ∷ back) ≡ (same_kind (kind_of l) word.Count && sees word.Open back)
unfolding sees_count sees
sees_here l t back = refl

sees_quoted : (t : List ℕ) (back : List Word) → sees_count (with_text word.Quoted t ∷ back) ≡ false
unfolding sees_count sees same_kind
sees_quoted t back = refl

chosen_by : (counted : Bool) (i : List Word) → sees_count i ≡ counted → chosen i ≡ (if counted then count else columns) i
chosen_by counted i is = ap (λ c. (if c then count else columns) i) is

-- at such a word: `(` behind it makes COUNT the count, in any case
chosen_here : (l : Loose) (said : List ℕ) (back : List Word) → Goes l said back (λ w. chosen (w ∷ back))
chosen_here l said back =
    by (same_kind (kind_of l) word.Count && sees word.Open back) refl
  where
    at_form : (counted : Bool) → (same_kind (kind_of l) word.Count && sees word.Open back) ≡ counted → (t : List ℕ) → chosen (with_text (kind_of l) t ∷ back) ≡ (if counted then count else columns) (with_text (kind_of l) t ∷ back)
    at_form counted is t = chosen_by counted (with_text (kind_of l) t ∷ back) (sees_here l t back ∙ is)

    as_columns : (same_kind (kind_of l) word.Count && sees word.Open back) ≡ false → (unquoted : Bool) (t : List ℕ) → chosen (with_text (kind_at l unquoted) t ∷ back) ≡ columns (with_text (kind_at l unquoted) t ∷ back)
    as_columns is true t = at_form false is t
    as_columns is false t = chosen_by false (with_text word.Quoted t ∷ back) (sees_quoted t back)

    by : (counted : Bool) → (same_kind (kind_of l) word.Count && sees word.Open back) ≡ counted → Goes l said back (λ w. chosen (w ∷ back))
    by true is = λ r rest h. said_there (λ t cased. at_form true is t ∙ count_same l said t back ∙ sym (at_form true is said) ∙ h)
    by false is = alike l said back (λ w. chosen (w ∷ back)) (λ w. columns (w ∷ back)) (as_columns is) (serves_columns.at l said [] back)

-- before such a word the next two are alike, whatever its form
next_same : (l : Loose) (y : Word) (front back : List Word) (unquoted : Bool) (t : List ℕ) → sees_count (y ∷ (front ++ with_text (kind_at l unquoted) t ∷ back)) ≡ sees_count (y ∷ (front ++ with_text word.Quoted [] ∷ back))
unfolding sees_count sees
next_same l y [] back unquoted t = ap (λ opened. same_kind y.kind word.Count && opened) (apart l unquoted word.Open refl ∙ sym (apart l false word.Open refl))
next_same l y (z ∷ front) back unquoted t = refl

serves_chosen : Serves chosen
serves_chosen =
    record { at = by }
  where
    either : (counted : Bool) → Serves (if counted then count else columns)
    either counted = serves_if counted _ _ serves_count serves_columns

    by : (l : Loose) (said : List ℕ) (front back : List Word) → Goes l said back (λ w. chosen (front ++ w ∷ back))
    by l said [] back = chosen_here l said back
    by l said (y ∷ front) back =
        alike l said back (λ w. chosen (y ∷ (front ++ w ∷ back))) (λ w. (if sees_count (y ∷ (front ++ with_text word.Quoted [] ∷ back)) then count else columns) (y ∷ (front ++ w ∷ back)))
        (λ unquoted t. ap (λ counted. (if counted then count else columns) (y ∷ (front ++ with_text (kind_at l unquoted) t ∷ back))) (next_same l y front back unquoted t))
        ((either (sees_count (y ∷ (front ++ with_text word.Quoted [] ∷ back)))).at l said (y ∷ front) back)

serves_selected : Serves selected
unfolding selected
serves_selected =
    serves_then (eat word.Star) _ (serves_eat word.Star refl) by
  where
    by : (all : Bool) → Serves (peek_count >>= (λ counted. if all then pure wanted.All else (if counted then count else columns)))
    by true = serves_pure wanted.All
    by false = serves_chosen

pub serves_query : (d : Dialect) → Serves (query d)
unfolding query
serves_query d =
    serves_then (expect word.Select) _ (serves_expect word.Select) (λ a. serves_then selected _ serves_selected (λ found.
    serves_then (expect word.From) _ (serves_expect word.From) (λ b. serves_then (object d) _ (serves_object d) (λ table.
    serves_then where_test _ serves_where (λ t. serves_pure (record { wanted = found; table = table; test = t }))))))
