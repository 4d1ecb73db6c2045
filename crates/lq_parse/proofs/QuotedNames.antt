-- A test and a query are read alike whether their names stand in their quotes or not.
use Rattle.std.proofs.Common.{◌≡◌, ℕ, zero, suc, Bool, true, false, nat_le, if◌then◌else◌, List, [], ◌∷◌, length, map, ◌&&◌, Option, Some, None, option_map, ap, ◌∙◌, sym, refl}
use Rattle.std.specs.List.{fold}
use Rattle.std.specs.Option.{option_and_then}
use Rattle.std.proofs.lemmas.List.{length-map}
use Rattle.lq_base.specs.declared.dialect.Dialect.{Dialect}
use Rattle.lq_base.specs.declared.dialect.Dialect.TheVariants.{Mysql, Postgresql}
use Rattle.lq_base.specs.declared.literal.Literal.TheVariants as constant
use Rattle.lq_model.specs.Comparison.{levels}
use Rattle.lq_model.specs.SqlParser.{Outcome, Parser, ◌>>=◌, after, and_more, and_then, eat, ended, expect, given, kind, led_by, many, many_of, next, peek, pure, refuse, same_kind, sees, separated, skip, taken, text, to_end}
use Rattle.lq_model.specs.SqlPart.{literal, literal_by, name, name_of, number, object, qualified}
use Rattle.lq_model.specs.SqlQuery.{columns, count, peek_count, query, sees_count, selected}
use Rattle.lq_model.specs.SqlTest.{any_test, begins_literal, comparison, most, nullness, operand, operator, operator_by, primary, product, sum, term, where_test}
use Rattle.lq_model.specs.SqlText.{query_in, read, test_in, whole}
use Rattle.lq_model.specs.SqlWord.{may_be_name, with_text, words}
use Rattle.lq_model.specs.declared.query.Wanted.TheVariants as wanted
use Rattle.lq_model.specs.declared.test.Op.TheVariants as op
use Rattle.lq_model.specs.declared.test.Operand.{Operand}
use Rattle.lq_model.specs.declared.test.Operand.TheVariants as side
use Rattle.lq_model.specs.declared.test.Test.{Test}
use Rattle.lq_model.specs.declared.test.Test.TheVariants as test
use Rattle.lq_model.specs.declared.word.Word.{Word}
use Rattle.lq_model.specs.declared.word.WordKind.{WordKind}
use Rattle.lq_model.specs.declared.word.WordKind.TheVariants as word
use Rattle.lq_parse.specs.Laws.{QuotesChangeNoQuery, QuotesChangeNoTest, but_count, in_its_quotes}

-- what takes the place of each word, and of its kind

abbrev Kept : (WordKind → WordKind) → WordKind → WordKind → Type 0
Kept kinds n k = same_kind (kinds n) k ≡ same_kind n k

-- a word of this kind stays what it is
abbrev NoName : (WordKind → WordKind) → WordKind → Type 0
NoName kinds k = (n : WordKind) → Kept kinds n k

-- the words that the grammar asks for, but for COUNT
abbrev AreNoNames : (WordKind → WordKind) → WordKind → Type 0
AreNoNames kinds n =
    Kept kinds n word.And × Kept kinds n word.Or × Kept kinds n word.Not × Kept kinds n word.Is × Kept kinds n word.Null × Kept kinds n word.Open × Kept kinds n word.Close × Kept kinds n word.Semicolon × Kept kinds n word.End × Kept kinds n word.Comma × Kept kinds n word.Where × Kept kinds n word.Star × Kept kinds n word.Select × Kept kinds n word.From × Kept kinds n word.Dot

record Turns (turn : Word → Word) (kinds : WordKind → WordKind) : Type 0 where
  end : kinds word.End ≡ word.End
  kind_is : (w : Word) → (turn w).kind ≡ kinds w.kind
  text_is : (w : Word) → (turn w).text ≡ w.text
  no_names : (n : WordKind) → AreNoNames kinds n
  may_be : (k : WordKind) → may_be_name (kinds k) ≡ may_be_name k
  begins : (k : WordKind) → begins_literal (kinds k) ≡ begins_literal k
  literals : (k : WordKind) (i : List Word) → literal_by (kinds k) i ≡ literal_by k i
  operators : (k : WordKind) (i : List Word) → operator_by (kinds k) i ≡ operator_by k i

abbrev turned_rest : (Word → Word) → {A : Type 0} → Outcome A → Outcome A
turned_rest turn None = None
turned_rest turn (Some found) = Some (found.0, map turn found.1)

-- a parser that does not see the change
record Blind (turn : Word → Word) {A : Type 0} (p : Parser A) : Type 0 where
  at : (i : List Word) → p (map turn i) ≡ turned_rest turn (p i)

module _ (turn : Word → Word) (kinds : WordKind → WordKind) (it : Turns turn kinds) where
  abbrev quoted : List Word → List Word
  quoted = map turn

  blind_pure : {A : Type 0} (x : A) → Blind turn (pure x)
  blind_pure x = record { at = λ i. refl }

  blind_refuse : {A : Type 0} → Blind turn {A = A} refuse
  blind_refuse = record { at = λ i. refl }

  blind_then : {A B : Type 0} (p : Parser A) (f : A → Parser B) → Blind turn p → ((x : A) → Blind turn (f x)) → Blind turn (p >>= f)
  blind_then {A = A} p f first more = record {
    at = λ i. ap (λ o. and_then o f) (first.at i) ∙ by (p i);
  }
    where
      by : (o : Outcome A) → and_then (turned_rest turn o) f ≡ turned_rest turn (and_then o f)
      by None = refl
      by (Some found) = (more found.0).at found.1

  blind_if : {A : Type 0} (b : Bool) (p q : Parser A) → Blind turn p → Blind turn q → Blind turn (if b then p else q)
  blind_if true p q first second = first
  blind_if false p q first second = second

  blind_given : {A : Type 0} (o : Option A) → Blind turn (given o)
  blind_given None = blind_refuse
  blind_given (Some x) = blind_pure x

  -- the next word

  kind_quoted : (i : List Word) → kind (quoted i) ≡ kinds (kind i)
  kind_quoted [] = sym it.end
  kind_quoted (w ∷ ws) = it.kind_is w

  text_quoted : (i : List Word) → text (quoted i) ≡ text i
  text_quoted [] = refl
  text_quoted (w ∷ ws) = it.text_is w

  next_quoted : (i : List Word) → next (quoted i) ≡ quoted (next i)
  next_quoted [] = refl
  next_quoted (w ∷ ws) = refl

  blind_skip : Blind turn skip
  blind_skip = record { at = λ i. ap (λ rest. Some (tt, rest)) (next_quoted i) }

  blind_taken : Blind turn taken
  blind_taken = record { at = λ i. ap (λ said. Some (said, next (quoted i))) (text_quoted i) ∙ ap (λ rest. Some (text i, rest)) (next_quoted i) }

  sees_quoted : (k : WordKind) → NoName kinds k → (i : List Word) → sees k (quoted i) ≡ sees k i
  unfolding sees
  sees_quoted k other i = ap (λ n. same_kind n k) (kind_quoted i) ∙ other (kind i)

  after_quoted : (k : WordKind) → NoName kinds k → (i : List Word) → after k (quoted i) ≡ quoted (after k i)
  unfolding after
  after_quoted k other i =
      ap (λ found. if found then next (quoted i) else quoted i) (sees_quoted k other i) ∙ by (sees k i)
    where
      by : (found : Bool) → (if found then next (quoted i) else quoted i) ≡ quoted (if found then next i else i)
      by true = next_quoted i
      by false = refl

  blind_eat : (k : WordKind) → NoName kinds k → Blind turn (eat k)
  blind_eat k other = record {
    at = λ i. ap (λ found. Some (found, after k (quoted i))) (sees_quoted k other i) ∙ ap (λ rest. Some (sees k i, rest)) (after_quoted k other i);
  }

  blind_expect : (k : WordKind) → NoName kinds k → Blind turn (expect k)
  unfolding expect
  blind_expect k other = record {
    at = λ i. ap (λ found. if found then Some (tt, next (quoted i)) else None) (sees_quoted k other i) ∙ by i (sees k i);
  }
    where
      by : (i : List Word) (found : Bool) → (if found then Some (tt {0}, next (quoted i)) else None) ≡ turned_rest turn (if found then Some (tt {0}, next i) else None)
      by i true = ap (λ rest. Some (tt, rest)) (next_quoted i)
      by i false = refl

  blind_peek : {A : Type 0} (f : WordKind → Parser A) → ((k : WordKind) (i : List Word) → f (kinds k) i ≡ f k i) → ((k : WordKind) → Blind turn (f k)) → Blind turn (peek >>= f)
  blind_peek f same each = record {
    at = λ i. ap (λ k. f k (quoted i)) (kind_quoted i) ∙ same (kind i) (quoted i) ∙ (each (kind i)).at i;
  }

  -- the rules

  blind_name : Blind turn name
  unfolding name
  blind_name =
      blind_peek _ (λ k i. ap (λ can. (if can then taken >>= (λ it. given (name_of it)) else refuse) i) (it.may_be k))
      (λ k. blind_if (may_be_name k) _ _ (blind_then taken _ blind_taken (λ it. blind_given (name_of it))) blind_refuse)

  blind_literal : Blind turn literal
  unfolding literal
  blind_literal =
      blind_peek literal_by it.literals by
    where
      by : (k : WordKind) → Blind turn (literal_by k)
      by word.Null = blind_then skip _ blind_skip (λ it. blind_pure constant.Null)
      by word.True = blind_then skip _ blind_skip (λ it. blind_pure (constant.Bool true))
      by word.False = blind_then skip _ blind_skip (λ it. blind_pure (constant.Bool false))
      by word.Text = blind_then taken _ blind_taken (λ it. blind_pure (constant.Text it))
      by word.Number = blind_then taken _ blind_taken (λ it. blind_given (number it))
      by _ = blind_refuse

  blind_operand : Blind turn operand
  unfolding operand
  blind_operand =
      blind_peek _ (λ k i. ap (λ begun. (if begun then literal >>= (λ it. pure (side.Literal it)) else name >>= (λ column. pure (side.Column column))) i) (it.begins k))
      (λ k. blind_if (begins_literal k) _ _ (blind_then literal _ blind_literal (λ it. blind_pure (side.Literal it))) (blind_then name _ blind_name (λ column. blind_pure (side.Column column))))

  blind_operator : Blind turn operator
  unfolding operator
  blind_operator =
      blind_peek operator_by it.operators by
    where
      by : (k : WordKind) → Blind turn (operator_by k)
      by word.Equal = blind_then skip _ blind_skip (λ it. blind_pure op.Eq)
      by word.Unequal = blind_then skip _ blind_skip (λ it. blind_pure op.Ne)
      by word.Less = blind_then skip _ blind_skip (λ it. blind_pure op.Lt)
      by word.AtMost = blind_then skip _ blind_skip (λ it. blind_pure op.Le)
      by word.More = blind_then skip _ blind_skip (λ it. blind_pure op.Gt)
      by word.AtLeast = blind_then skip _ blind_skip (λ it. blind_pure op.Ge)
      by _ = blind_refuse

  blind_nullness : (x : Operand) → Blind turn (nullness x)
  unfolding nullness
  blind_nullness x =
      blind_then (eat word.Not) _ (blind_eat word.Not (λ n. (it.no_names n).2)) (λ negated.
      blind_then (expect word.Null) _ (blind_expect word.Null (λ n. (it.no_names n).4)) (λ it. blind_pure (if negated then test.NotNull x else test.IsNull x)))

  blind_comparison : Blind turn comparison
  unfolding comparison
  blind_comparison =
      blind_then operand _ blind_operand (λ x. blind_then (eat word.Is) _ (blind_eat word.Is (λ n. (it.no_names n).3)) (λ found. blind_if found _ _ (blind_nullness x)
      (blind_then operator _ blind_operator (λ o. blind_then operand _ blind_operand (λ y. blind_pure (test.Compare o x y))))))

  blind_more : {A : Type 0} (found : Option A) (more : Parser (List A)) → Blind turn more → Blind turn (and_more found more)
  blind_more None more is = blind_pure []
  blind_more (Some x) more is = blind_then more _ is (λ xs. blind_pure (x ∷ xs))

  blind_many_of : {A : Type 0} (item : Parser (Option A)) → Blind turn item → (n : ℕ) → Blind turn (many_of item n)
  unfolding many_of
  blind_many_of item is zero = blind_pure []
  blind_many_of item is (suc n) = blind_then item _ is (λ found. blind_more found (many_of item n) (blind_many_of item is n))

  blind_many : {A : Type 0} (item : Parser (Option A)) → Blind turn item → Blind turn (many item)
  unfolding many
  blind_many item is = record { at = λ i. ap (λ n. many_of item n (quoted i)) (length-map i turn) ∙ (blind_many_of item is (length i)).at i }

  blind_led : {A : Type 0} (k : WordKind) → NoName kinds k → (item : Parser A) → Blind turn item → Blind turn (led_by k item)
  unfolding led_by
  blind_led k other item is = blind_then (eat k) _ (blind_eat k other) (λ led. blind_if led _ _ (blind_then item _ is (λ x. blind_pure (Some x))) (blind_pure None))

  not_quoted : (w : Word) → same_kind (turn w).kind word.Not ≡ same_kind w.kind word.Not
  not_quoted w = ap (λ n. same_kind n word.Not) (it.kind_is w) ∙ (it.no_names w.kind).2

  turned_quoted : (found : Outcome Test) → and_then (turned_rest turn found) (λ t. pure (test.Not t)) ≡ turned_rest turn (and_then found (λ t. pure (test.Not t)))
  turned_quoted None = refl
  turned_quoted (Some found) = refl

  term_quoted : (p : Parser Test) → Blind turn p → (i : List Word) → term p (quoted i) ≡ turned_rest turn (term p i)
  unfolding term
  term_quoted p is [] = is.at []
  term_quoted p is (w ∷ i) =
      ap (λ negated. if negated then and_then (term p (quoted i)) (λ t. pure (test.Not t)) else p (quoted (w ∷ i))) (not_quoted w)
      ∙ by (same_kind w.kind word.Not) (term_quoted p is i)
    where
      by : (negated : Bool) → term p (quoted i) ≡ turned_rest turn (term p i)
          → (if negated then and_then (term p (quoted i)) (λ t. pure (test.Not t)) else p (quoted (w ∷ i)))
          ≡ turned_rest turn (if negated then and_then (term p i) (λ t. pure (test.Not t)) else p (w ∷ i))
      by true same = ap (λ found. and_then found (λ t. pure (test.Not t))) same ∙ turned_quoted (term p i)
      by false same = is.at (w ∷ i)

  blind_term : (p : Parser Test) → Blind turn p → Blind turn (term p)
  blind_term p is = record { at = λ i. term_quoted p is i }

  blind_product : (p : Parser Test) → Blind turn p → Blind turn (product p)
  unfolding product
  blind_product p is =
      blind_then (term p) _ (blind_term p is) (λ first. blind_then (many (led_by word.And (term p))) _ (blind_many (led_by word.And (term p)) (blind_led word.And (λ k. (it.no_names k).0) (term p) (blind_term p is))) (λ more.
      blind_pure (fold test.And first more)))

  blind_sum : (p : Parser Test) → Blind turn p → Blind turn (sum p)
  unfolding sum
  blind_sum p is =
      blind_then (product p) _ (blind_product p is) (λ first. blind_then (many (led_by word.Or (product p))) _ (blind_many (led_by word.Or (product p)) (blind_led word.Or (λ k. (it.no_names k).1) (product p) (blind_product p is))) (λ more.
      blind_pure (fold test.Or first more)))

  blind_primary : (n : ℕ) → Blind turn (primary n)
  unfolding primary
  blind_primary zero = blind_comparison
  blind_primary (suc n) =
      blind_then (eat word.Open) _ (blind_eat word.Open (λ k. (it.no_names k).5)) (λ opened. blind_if opened _ _
      (blind_then (sum (primary n)) _ (blind_sum (primary n) (blind_primary n)) (λ t. blind_then (expect word.Close) _ (blind_expect word.Close (λ k. (it.no_names k).6)) (λ it. blind_pure t)))
      blind_comparison)

  blind_any : Blind turn any_test
  unfolding any_test
  blind_any = blind_then (sum (primary most)) _ (blind_sum (primary most) (blind_primary most)) (λ t. blind_if (nat_le (levels t) most) _ _ (blind_pure t) blind_refuse)

  blind_ended : {A : Type 0} (x : A) → Blind turn (ended x)
  unfolding ended
  blind_ended x =
      blind_then (eat word.Semicolon) _ (blind_eat word.Semicolon (λ k. (it.no_names k).7)) (λ found.
      blind_then (expect word.End) _ (blind_expect word.End (λ k. (it.no_names k).8)) (λ none. blind_pure x))

  -- queries

  blind_separated : {A : Type 0} (item : Parser A) → Blind turn item → Blind turn (separated item)
  unfolding separated
  blind_separated item is =
      blind_then item _ is (λ first. blind_then (many (led_by word.Comma item)) _ (blind_many (led_by word.Comma item) (blind_led word.Comma (λ k. (it.no_names k).9) item is)) (λ more.
      blind_pure (first ∷ more)))

  blind_where : Blind turn where_test
  unfolding where_test
  blind_where =
      blind_then (eat word.Where) _ (blind_eat word.Where (λ k. (it.no_names k).10)) (λ found.
      blind_if found _ _ (blind_then any_test _ blind_any (λ t. blind_pure (Some t))) (blind_pure None))

  counted : NoName kinds word.Count → (i : List Word) → sees_count (quoted i) ≡ sees_count i
  unfolding sees_count
  counted count_is i =
      ap (λ first. first && sees word.Open (next (quoted i))) (sees_quoted word.Count count_is i)
      ∙ ap (λ second. sees word.Count i && second) (ap (sees word.Open) (next_quoted i) ∙ sees_quoted word.Open (λ k. (it.no_names k).5) (next i))

  blind_counted : NoName kinds word.Count → Blind turn peek_count
  blind_counted count_is = record { at = λ i. ap (λ found. Some (found, quoted i)) (counted count_is i) }

  blind_count : NoName kinds word.Count → Blind turn count
  unfolding count
  blind_count count_is =
      blind_then (expect word.Count) _ (blind_expect word.Count count_is) (λ a. blind_then (expect word.Open) _ (blind_expect word.Open (λ k. (it.no_names k).5)) (λ b.
      blind_then (expect word.Star) _ (blind_expect word.Star (λ k. (it.no_names k).11)) (λ c. blind_then (expect word.Close) _ (blind_expect word.Close (λ k. (it.no_names k).6)) (λ e. blind_pure wanted.Count))))

  blind_columns : Blind turn columns
  unfolding columns
  blind_columns = blind_then (separated name) _ (blind_separated name blind_name) (λ names. blind_pure (wanted.Columns names))

  blind_selected : NoName kinds word.Count → Blind turn selected
  unfolding selected
  blind_selected count_is =
      blind_then (eat word.Star) _ (blind_eat word.Star (λ k. (it.no_names k).11)) (λ all. blind_then peek_count _ (blind_counted count_is) (λ found.
      blind_if all _ _ (blind_pure wanted.All) (blind_if found _ _ (blind_count count_is) blind_columns)))

  blind_object : (d : Dialect) → Blind turn (object d)
  unfolding object
  blind_object Mysql = blind_name
  blind_object Postgresql =
      blind_then name _ blind_name (λ first. blind_then (eat word.Dot) _ (blind_eat word.Dot (λ k. (it.no_names k).14)) (λ more. blind_if more _ _
      (blind_then name _ blind_name (λ text. blind_given (qualified first text)))
      (blind_pure first)))

  blind_query : NoName kinds word.Count → (d : Dialect) → Blind turn (query d)
  unfolding query
  blind_query count_is d =
      blind_then (expect word.Select) _ (blind_expect word.Select (λ k. (it.no_names k).12)) (λ a. blind_then selected _ (blind_selected count_is) (λ found.
      blind_then (expect word.From) _ (blind_expect word.From (λ k. (it.no_names k).13)) (λ b. blind_then (object d) _ (blind_object d) (λ table.
      blind_then where_test _ blind_where (λ t. blind_pure (record { wanted = found; table = table; test = t }))))))

  -- the whole

  read_turned : {A : Type 0} (o : Outcome A) → read (turned_rest turn o) ≡ read o
  read_turned None = refl
  read_turned (Some found) = refl

  whole_turned : {A : Type 0} (parser : Parser A) → Blind turn parser → (o : Option (List Word))
      → option_and_then (λ ws. read (to_end parser ws)) (option_map quoted o) ≡ option_and_then (λ ws. read (to_end parser ws)) o
  whole_turned parser is None = refl
  whole_turned parser is (Some ws) = ap read ((blind_then parser ended is blind_ended).at ws) ∙ read_turned (to_end parser ws)

  whole_same : {A : Type 0} (parser : Parser A) → Blind turn parser → (d e : Dialect) (a b : List ℕ)
      → option_map quoted (words d a) ≡ option_map quoted (words e b) → whole parser d a ≡ whole parser e b
  whole_same parser is d e a b same =
      sym (whole_turned parser is (words d a)) ∙ ap (option_and_then (λ ws. read (to_end parser ws))) same ∙ whole_turned parser is (words e b)

-- each name in its quotes

abbrev quoted_kind : WordKind → WordKind
quoted_kind k = if may_be_name k then word.Quoted else k

quoted_kind_by : (n : WordKind) (said : List ℕ) → (in_its_quotes (with_text n said)).kind ≡ quoted_kind n
quoted_kind_by word.Count said = refl
quoted_kind_by _ said = refl

quoted_text_by : (n : WordKind) (said : List ℕ) → (in_its_quotes (with_text n said)).text ≡ said
quoted_text_by word.Count said = refl
quoted_text_by _ said = refl

quoted_no_names : (n : WordKind) → AreNoNames quoted_kind n
unfolding same_kind
quoted_no_names word.Count = (refl, refl, refl, refl, refl, refl, refl, refl, refl, refl, refl, refl, refl, refl, refl)
quoted_no_names _ = (refl, refl, refl, refl, refl, refl, refl, refl, refl, refl, refl, refl, refl, refl, refl)

quoted_may_be : (n : WordKind) → may_be_name (quoted_kind n) ≡ may_be_name n
quoted_may_be word.Count = refl
quoted_may_be _ = refl

quoted_begins : (n : WordKind) → begins_literal (quoted_kind n) ≡ begins_literal n
quoted_begins word.Count = refl
quoted_begins _ = refl

quoted_literals : (n : WordKind) (i : List Word) → literal_by (quoted_kind n) i ≡ literal_by n i
quoted_literals word.Count i = refl
quoted_literals _ i = refl

quoted_operators : (n : WordKind) (i : List Word) → operator_by (quoted_kind n) i ≡ operator_by n i
quoted_operators word.Count i = refl
quoted_operators _ i = refl

quoted_turns : Turns in_its_quotes quoted_kind
quoted_turns = record {
  end = refl;
  kind_is = λ w. quoted_kind_by w.kind w.text;
  text_is = λ w. quoted_text_by w.kind w.text;
  no_names = quoted_no_names;
  may_be = quoted_may_be;
  begins = quoted_begins;
  literals = quoted_literals;
  operators = quoted_operators;
}

-- each but COUNT

abbrev but_count_kind : WordKind → WordKind
but_count_kind word.Count = word.Count
but_count_kind k = quoted_kind k

count_kind_by : (n : WordKind) (said : List ℕ) → (but_count (with_text n said)).kind ≡ but_count_kind n
unfolding same_kind
count_kind_by word.Count said = refl
count_kind_by _ said = refl

count_text_by : (n : WordKind) (said : List ℕ) → (but_count (with_text n said)).text ≡ said
unfolding same_kind
count_text_by word.Count said = refl
count_text_by _ said = refl

count_no_names : (n : WordKind) → AreNoNames but_count_kind n
unfolding same_kind
count_no_names word.Count = (refl, refl, refl, refl, refl, refl, refl, refl, refl, refl, refl, refl, refl, refl, refl)
count_no_names _ = (refl, refl, refl, refl, refl, refl, refl, refl, refl, refl, refl, refl, refl, refl, refl)

count_may_be : (n : WordKind) → may_be_name (but_count_kind n) ≡ may_be_name n
count_may_be word.Count = refl
count_may_be _ = refl

count_begins : (n : WordKind) → begins_literal (but_count_kind n) ≡ begins_literal n
count_begins word.Count = refl
count_begins _ = refl

count_literals : (n : WordKind) (i : List Word) → literal_by (but_count_kind n) i ≡ literal_by n i
count_literals word.Count i = refl
count_literals _ i = refl

count_operators : (n : WordKind) (i : List Word) → operator_by (but_count_kind n) i ≡ operator_by n i
count_operators word.Count i = refl
count_operators _ i = refl

count_turns : Turns but_count but_count_kind
count_turns = record {
  end = refl;
  kind_is = λ w. count_kind_by w.kind w.text;
  text_is = λ w. count_text_by w.kind w.text;
  no_names = count_no_names;
  may_be = count_may_be;
  begins = count_begins;
  literals = count_literals;
  operators = count_operators;
}

count_stays : NoName but_count_kind word.Count
unfolding same_kind
count_stays word.Count = refl
count_stays _ = refl

pub quotes_change_no_test : QuotesChangeNoTest
unfolding test_in
quotes_change_no_test d e a b same = whole_same in_its_quotes quoted_kind quoted_turns any_test (blind_any in_its_quotes quoted_kind quoted_turns) d e a b same

pub quotes_change_no_query : QuotesChangeNoQuery
unfolding query_in
quotes_change_no_query d a b same = whole_same but_count but_count_kind count_turns (query d) (blind_query but_count but_count_kind count_turns count_stays d) d d a b same
