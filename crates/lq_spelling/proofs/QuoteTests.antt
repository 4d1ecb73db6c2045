-- Names, literals, kinds, tests and queries are read alike where names have left out their quotes.
use Rattle.std.proofs.Common.{◌≡◌, ℕ, zero, suc, Bool, true, false, if◌then◌else◌, nat_le, List, [], ◌∷◌, ◌&&◌, Option, Some, None, inl, inr, ap, ap₂, ◌∙◌, sym, subst, refl}
use Rattle.std.specs.List.{fold}
use denote.Enum.Bare.{same_true}
use Rattle.lq_model.specs.contracts.word.WordKind.{the_type}
use Rattle.lq_base.specs.declared.dialect.Dialect.TheVariants.{Mysql, Postgresql}
use Rattle.lq_base.specs.declared.dialect.Dialect.{Dialect}
use Rattle.lq_base.specs.declared.literal.Literal.TheVariants as constant
use Rattle.lq_base.specs.declared.name.Name.{Name}
use Rattle.lq_base.specs.Kind.{decimal_kind, plain_kind, plain_number, sized_kind}
use Rattle.lq_model.specs.Comparison.{levels}
use Rattle.lq_model.specs.SqlParser.{Outcome, Parser, ◌>>=◌, and_then, eat, expect, given, kind, led_by, many, next, pure, refuse, same_kind, sees, separated, skip, taken, text}
use Rattle.lq_model.specs.SqlPart.{column_kind, decimal_with, kind_number, kind_with, literal, literal_by, name, name_of, number, object, qualified, sized_with}
use Rattle.lq_model.specs.SqlQuery.{columns, count, peek_count, query, sees_count, selected}
use Rattle.lq_model.specs.SqlTest.{any_test, begins_literal, comparison, most, nullness, operand, operator, operator_by, primary, product, sum, term, where_test}
use Rattle.lq_model.specs.SqlWord.{may_be_name}
use Rattle.lq_model.specs.declared.query.Wanted.{Wanted}
use Rattle.lq_model.specs.declared.query.Wanted.TheVariants as wanted
use Rattle.lq_model.specs.declared.test.Op.TheVariants as op
use Rattle.lq_model.specs.declared.test.Operand.{Operand}
use Rattle.lq_model.specs.declared.test.Operand.TheVariants as side
use Rattle.lq_model.specs.declared.test.Test.{Test}
use Rattle.lq_model.specs.declared.test.Test.TheVariants as test
use Rattle.lq_model.specs.declared.word.Word.{Word}
use Rattle.lq_model.specs.declared.word.WordKind.{WordKind}
use Rattle.lq_model.specs.declared.word.WordKind.TheVariants as word
use Rattle.lq_spelling.proofs.QuoteLists.{blind_chain, blind_separated, stays_led, stays_many}
use Rattle.lq_spelling.specs.Laws.{AreBare, IsBare}
use Rattle.lq_spelling.proofs.QuoteParts.{Alike, Blind, Halted, blind_by, blind_eat, blind_expect, blind_given, blind_if, blind_peek, blind_pure, blind_refuse, blind_skip, blind_so, blind_taken, blind_test, blind_then, blind_until, halted_alike, halts, is_quoted, kind_bare, next_bare, refuses_expect, refuses_first, same_bare, sees_bare, stays_pure, stays_then, told_apart}

-- names

blind_named : Blind false (taken >>= (λ it. given (name_of it)))
blind_named = blind_then false taken _ blind_taken (λ it. blind_given false (name_of it))

pub blind_name : Blind false name
unfolding name
blind_name =
    blind_peek false _ (λ k. blind_if false (may_be_name k) _ _ blind_named (blind_refuse false)) (λ i j n same is may.
    subst (λ (b : Bool). Alike false ((taken >>= (λ it. given (name_of it))) i) ((if b then taken >>= (λ it. given (name_of it)) else refuse) j)) (sym may) (blind_named.at i j same))

pub blind_object : (d : Dialect) → Blind false (object d)
unfolding object
blind_object Mysql = blind_name
blind_object Postgresql =
    blind_then false name _ blind_name (λ first. blind_then false (eat word.Dot) _ (blind_eat word.Dot refl) (λ more.
    blind_if false more _ _ (blind_then false name _ blind_name (λ text. blind_given false (qualified first text))) (blind_pure false first)))

-- literals

pub blind_literal : Blind false literal
unfolding literal
blind_literal = blind_by false literal_by by (λ i. refl)
  where
    by : (k : WordKind) → Blind false (literal_by k)
    by word.Null = blind_then false skip _ blind_skip (λ it. blind_pure false constant.Null)
    by word.True = blind_then false skip _ blind_skip (λ it. blind_pure false (constant.Bool true))
    by word.False = blind_then false skip _ blind_skip (λ it. blind_pure false (constant.Bool false))
    by word.Text = blind_then false taken _ blind_taken (λ it. blind_pure false (constant.Text it))
    by word.Number = blind_then false taken _ blind_taken (λ it. blind_given false (number it))
    by _ = blind_refuse false

-- kinds

blind_number : Blind false kind_number
unfolding kind_number same_kind
blind_number =
    blind_by false _ (λ k. blind_if false (same_kind k word.Number) _ _ (blind_then false taken _ blind_taken (λ it. blind_given false (plain_number it))) (blind_refuse false)) (λ i. refl)

blind_sized : (said : List ℕ) (first : ℕ) → Blind false (sized_with said first)
unfolding sized_with
blind_sized said first = blind_then false (expect word.Close) _ (blind_expect word.Close refl) (λ a. blind_given false (sized_kind said first))

blind_decimal : (said : List ℕ) (first : ℕ) → Blind false (decimal_with said first)
unfolding decimal_with
blind_decimal said first =
    blind_then false kind_number _ blind_number (λ second. blind_then false (expect word.Close) _ (blind_expect word.Close refl) (λ a. blind_given false (decimal_kind said first second)))

blind_kind_with : (said : List ℕ) → Blind false (kind_with said)
unfolding kind_with
blind_kind_with said =
    blind_then false kind_number _ blind_number (λ first. blind_then false (eat word.Comma) _ (blind_eat word.Comma refl) (λ more. blind_if false more _ _ (blind_decimal said first) (blind_sized said first)))

pub blind_kind : Blind false column_kind
unfolding column_kind same_kind
blind_kind =
    blind_by false _ (λ k. blind_then false taken _ blind_taken (λ said. blind_then false (eat word.Open) _ (blind_eat word.Open refl) (λ sized.
    blind_if false (same_kind k word.Plain) _ _ (blind_if false sized _ _ (blind_kind_with said) (blind_given false (plain_kind said))) (blind_refuse false)))) (λ i. refl)

-- tests

no_literal : (n : WordKind) → may_be_name n ≡ true → begins_literal n ≡ false
no_literal word.Null may = sym may
no_literal word.True may = sym may
no_literal word.False may = sym may
no_literal word.Text may = sym may
no_literal word.Number may = sym may
no_literal _ may = refl

blind_operand : Blind false operand
unfolding operand
blind_operand =
    blind_test false begins_literal _ _ no_literal (blind_then false literal _ blind_literal (λ it. blind_pure false (side.Literal it))) (blind_then false name _ blind_name (λ column. blind_pure false (side.Column column)))

blind_operator : Blind false operator
unfolding operator
blind_operator = blind_by false operator_by by (λ i. refl)
  where
    by : (k : WordKind) → Blind false (operator_by k)
    by word.Equal = blind_then false skip _ blind_skip (λ it. blind_pure false op.Eq)
    by word.Unequal = blind_then false skip _ blind_skip (λ it. blind_pure false op.Ne)
    by word.Less = blind_then false skip _ blind_skip (λ it. blind_pure false op.Lt)
    by word.AtMost = blind_then false skip _ blind_skip (λ it. blind_pure false op.Le)
    by word.More = blind_then false skip _ blind_skip (λ it. blind_pure false op.Gt)
    by word.AtLeast = blind_then false skip _ blind_skip (λ it. blind_pure false op.Ge)
    by _ = blind_refuse false

blind_nullness : (x : Operand) → Blind false (nullness x)
unfolding nullness
blind_nullness x =
    blind_then false (eat word.Not) _ (blind_eat word.Not refl) (λ negated.
    blind_then false (expect word.Null) _ (blind_expect word.Null refl) (λ it. blind_pure false (if negated then test.NotNull x else test.IsNull x)))

blind_comparison : Blind false comparison
unfolding comparison
blind_comparison =
    blind_then false operand _ blind_operand (λ x. blind_then false (eat word.Is) _ (blind_eat word.Is refl) (λ found. blind_if false found _ _ (blind_nullness x)
    (blind_then false operator _ blind_operator (λ o. blind_then false operand _ blind_operand (λ y. blind_pure false (test.Compare o x y))))))

not_alike : (o e : Outcome Test) → Alike false o e → Alike false (and_then o (λ t. pure (test.Not t))) (and_then e (λ t. pure (test.Not t)))
not_alike None e h = tt
not_alike (Some x) None h = h
not_alike (Some x) (Some y) (inl h) = inl (ap test.Not h.0, h.1)
not_alike (Some x) (Some y) (inr h) = inr h

blind_term : (p : Parser Test) → Blind false p → Blind false (term p)
unfolding term
blind_term p is = record { at = at }
  where
    by : (here there : Bool) → here ≡ there → (v w : Word) (vs ws : List Word) → AreBare (v ∷ vs) (w ∷ ws) → Alike false (term p vs) (term p ws)
        → Alike false (if here then and_then (term p vs) (λ t. pure (test.Not t)) else p (v ∷ vs)) (if there then and_then (term p ws) (λ t. pure (test.Not t)) else p (w ∷ ws))
    by true true e v w vs ws same inner = not_alike (term p vs) (term p ws) inner
    by false false e v w vs ws same inner = is.at (v ∷ vs) (w ∷ ws) same
    by true false e v w vs ws same inner = absurd (cc)
    by false true e v w vs ws same inner = absurd (cc)

    at : (i j : List Word) → AreBare i j → Alike false (term p i) (term p j)
    at [] [] same = is.at [] [] same
    at (v ∷ vs) (w ∷ ws) same = by (same_kind v.kind word.Not) (same_kind w.kind word.Not) (same_bare word.Not v.kind w.kind refl same.0) v w vs ws same (at vs ws same.2)
    at [] (w ∷ ws) same = absurd same
    at (v ∷ vs) [] same = absurd same

blind_product : (p : Parser Test) → Blind false p → Blind false (product p)
unfolding product
blind_product p is =
    blind_then false (term p) _ (blind_term p is) (λ first.
    blind_then false (many (led_by word.And (term p))) _ (blind_chain false word.And (term p) refl refl (blind_term p is)) (λ more. blind_pure false (fold test.And first more)))

blind_sum : (p : Parser Test) → Blind false p → Blind false (sum p)
unfolding sum
blind_sum p is =
    blind_then false (product p) _ (blind_product p is) (λ first.
    blind_then false (many (led_by word.Or (product p))) _ (blind_chain false word.Or (product p) refl refl (blind_product p is)) (λ more. blind_pure false (fold test.Or first more)))

blind_primary : (n : ℕ) → Blind false (primary n)
unfolding primary
blind_primary zero = blind_comparison
blind_primary (suc n) =
    blind_then false (eat word.Open) _ (blind_eat word.Open refl) (λ opened. blind_if false opened _ _
    (blind_then false (sum (primary n)) _ (blind_sum (primary n) (blind_primary n)) (λ t. blind_then false (expect word.Close) _ (blind_expect word.Close refl) (λ it. blind_pure false t)))
    blind_comparison)

blind_any : Blind false any_test
unfolding any_test
blind_any = blind_then false (sum (primary most)) _ (blind_sum (primary most) (blind_primary most)) (λ t. blind_if false (nat_le (levels t) most) _ _ (blind_pure false t) (blind_refuse false))

pub blind_where : Blind false where_test
unfolding where_test
blind_where =
    blind_then false (eat word.Where) _ (blind_eat word.Where refl) (λ found.
    blind_if false found _ _ (blind_then false any_test _ blind_any (λ t. blind_pure false (Some t))) (blind_pure false None))

-- queries

blind_count : Blind false count
unfolding count
blind_count =
    blind_then false (expect word.Count) _ (blind_expect word.Count refl) (λ a. blind_then false (expect word.Open) _ (blind_expect word.Open refl) (λ b.
    blind_then false (expect word.Star) _ (blind_expect word.Star refl) (λ c. blind_then false (expect word.Close) _ (blind_expect word.Close refl) (λ e. blind_pure false wanted.Count))))

blind_columns : Blind false columns
unfolding columns
blind_columns = blind_then false (separated name) _ (blind_separated false name blind_name) (λ names. blind_pure false (wanted.Columns names))

-- a name before `(`: the list of columns ends there, and no FROM follows
before_open : (i : List Word) → kind i ≡ word.Quoted → halts (kind (next i)) ≡ true → Halted (columns i)
unfolding columns separated name
before_open i is open_next =
    subst (λ (k : WordKind). Halted ((((if may_be_name k then taken >>= (λ it. given (name_of it)) else refuse) >>= list) >>= (λ names. pure (wanted.Columns names))) i)) (sym is) (by (name_of (text i)))
  where
    list : Name → Parser (List Name)
    list first = many (led_by word.Comma name) >>= (λ more. pure (first ∷ more))

    by : (named : Option Name) → Halted (and_then (and_then (given named (next i)) list) (λ names. pure (wanted.Columns names)))
    by None = tt
    by (Some n) = (stays_then (list n) _ (stays_then (many (led_by word.Comma name)) _ (stays_many _ (stays_led word.Comma name refl)) (λ more. stays_pure (n ∷ more))) (λ names. stays_pure (wanted.Columns names))).at (next i) open_next

and_false : (b c : Bool) → c ≡ false → (b && c) ≡ false
and_false true c is = is
and_false false c is = refl

halts_open : (i : List Word) → sees word.Open i ≡ true → halts (kind i) ≡ true
unfolding sees same_kind
halts_open i is = ap halts (same_true the_type tt (kind i) word.Open is)

abbrev count_or : Bool → Parser Wanted
count_or counted = if counted then count else columns

alike_counts : (i j : List Word) → AreBare i j → (here there : Bool) → here ≡ there → Alike true (count_or here i) (count_or there j)
alike_counts i j same here there e = subst (λ (c : Bool). Alike true (count_or here i) (count_or c j)) e ((blind_if true here count columns (blind_so true count blind_count) (blind_so true columns blind_columns)).at i j same)

-- COUNT out of its quotes may be seen as the count
alike_counted : (i j : List Word) → AreBare i j → kind i ≡ word.Quoted → (opened : Bool) → sees word.Open (next i) ≡ opened → Alike true (count_or (sees_count i) i) (count_or (sees_count j) j)
unfolding sees_count sees
alike_counted i j same is true open_next =
    let no_count : sees_count i ≡ false = ap (λ seen. seen && sees word.Open (next i)) (ap (λ k. same_kind k word.Count) is ∙ told_apart is_quoted word.Quoted word.Count refl refl) in
    halted_alike (count_or (sees_count i) i) (count_or (sees_count j) j) (subst (λ (c : Bool). Halted (count_or c i)) (sym no_count) (before_open i is (halts_open (next i) open_next)))
alike_counted i j same is false open_next =
    alike_counts i j same (sees_count i) (sees_count j)
    (and_false (sees word.Count i) (sees word.Open (next i)) open_next ∙ sym (and_false (sees word.Count j) (sees word.Open (next j)) (sym (sees_bare word.Open refl (next i) (next j) (next_bare i j same)) ∙ open_next)))

alike_selected : (i j : List Word) → AreBare i j → IsBare (kind i) (kind j) → Alike true (count_or (sees_count i) i) (count_or (sees_count j) j)
unfolding sees_count sees
alike_selected i j same (inl e) =
    alike_counts i j same (sees_count i) (sees_count j) (ap₂ (λ a b. a && b) (ap (λ k. same_kind k word.Count) e) (sees_bare word.Open refl (next i) (next j) (next_bare i j same)))
alike_selected i j same (inr h) = alike_counted i j same h.0 (sees word.Open (next i)) refl

blind_selected : Blind true selected
unfolding selected
blind_selected = blind_then true (eat word.Star) _ (blind_eat word.Star refl) by
  where
    by : (all : Bool) → Blind true (peek_count >>= (λ counted. if all then pure wanted.All else (if counted then count else columns)))
    by true = record { at = λ i j same. inl (refl, same) }
    by false = record { at = λ i j same. alike_selected i j same (kind_bare i j same) }

pub blind_query : (d : Dialect) → Blind false (query d)
unfolding query
blind_query d =
    blind_then false (expect word.Select) _ (blind_expect word.Select refl) (λ a. blind_until selected _ blind_selected
    (λ found. blind_then false (expect word.From) _ (blind_expect word.From refl) (λ b. blind_then false (object d) _ (blind_object d) (λ table.
    blind_then false where_test _ blind_where (λ t. blind_pure false (record { wanted = found; table = table; test = t })))))
    (λ found. refuses_first (expect word.From) _ (refuses_expect word.From refl)))
