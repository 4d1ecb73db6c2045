-- A test or a query that a text spells can be written.
use Rattle.std.proofs.Common.{◌≡◌, ℕ, true, ◌&&◌, nat_le, List, [], ◌∷◌, Option, Some, None, IfSome, subst, refl}
use Rattle.std.specs.List.{list_all}
use Rattle.std.specs.Option.{option_and_then}
use Rattle.std.proofs.lemmas.Bool.{and_from}
use Rattle.lq_base.specs.Laws.{NumberOfSpells}
use Rattle.lq_base.specs.Name.{is_name, is_object}
use Rattle.lq_base.specs.declared.dialect.Dialect.{Dialect}
use Rattle.lq_model.specs.Comparison.{is_literal, is_spelled, levels, test_literals}
use Rattle.lq_model.specs.SqlParser.{Outcome, Parser, eat, expect, separated, to_end}
use Rattle.lq_model.specs.SqlPart.{literal, name, object}
use Rattle.lq_model.specs.SqlQuery.{columns, count, peek_count, query, selected}
use Rattle.lq_model.specs.SqlTest.{any_test, where_test}
use Rattle.lq_model.specs.SqlText.{query_in, read, test_in, whole}
use Rattle.lq_model.specs.SqlWord.{words}
use Rattle.lq_model.specs.Step.{is_query, is_wanted, is_where}
use Rattle.lq_model.specs.Truth.{test_names}
use Rattle.lq_model.specs.declared.query.Query.{Query}
use Rattle.lq_model.specs.declared.query.Wanted.{Wanted}
use Rattle.lq_model.specs.declared.query.Wanted.TheVariants as wanted
use Rattle.lq_model.specs.declared.test.Test.{Test}
use Rattle.lq_model.specs.declared.word.Word.{Word}
use Rattle.lq_model.specs.declared.word.WordKind.TheVariants as word
use Rattle.lq_parse.specs.Laws.{QueriesCanBeWritten, TestsCanBeWritten}
use Rattle.lq_parse.proofs.Makes.{AllSo, IsLiteralText, IsNameText, IsObjectText, IsWholeTest, IsWholeWhere, Makes, SomeSo, any_test_makes, literal_makes, makes_after, makes_if, makes_pure, makes_then, name_makes, object_makes, separated_makes, to_end_makes, where_makes}
use Rattle.lq_parse.proofs.NumberMakes.{number_makes}

read_makes : {A : Type 0} (P : A → Type 0) (o : Outcome A) (it : A) → IfSome o (λ found. P found.0) → read o ≡ Some it → P it
read_makes P None it h e = absurd cc
read_makes P (Some found) it h e = let same : found.0 ≡ it = cc in subst P same h

-- what all words of a text spell is as what its parser makes
pub whole_makes : {A : Type 0} (P : A → Type 0) (parser : Parser A) (d : Dialect) (text : List ℕ) (it : A) → Makes P parser → whole parser d text ≡ Some it → P it
whole_makes P parser d text it makes e =
    by (words d text) e
  where
    by : (o : Option (List Word)) → option_and_then (λ ws. read (to_end parser ws)) o ≡ Some it → P it
    by None e = absurd cc
    by (Some ws) e = read_makes P (to_end parser ws) it ((to_end_makes P parser makes).at ws) e

pub literals : NumberOfSpells → Makes IsLiteralText literal
literals spells = literal_makes (number_makes spells)

pub where_is : (t : Test) → IsWholeTest t → is_where (Some t) ≡ true
where_is t it = and_from (list_all is_name (test_names t)) (is_spelled (Some t)) it.0.are_names (and_from (nat_le (levels t) 64) (list_all is_literal (test_literals t)) it.1 it.0.are_literals)

pub option_where : (test : Option Test) → IsWholeWhere test → is_where test ≡ true
option_where None it = refl
option_where (Some t) it = where_is t it

pub tests_can : NumberOfSpells → TestsCanBeWritten
unfolding test_in
tests_can spells d text t e = where_is t (whole_makes IsWholeTest any_test d text t (any_test_makes (literals spells)) e)

-- queries

abbrev pub IsWantedText : Wanted → Type 0
IsWantedText w = is_wanted w ≡ true

pub names_are : (ns : List (List ℕ)) → AllSo IsNameText ns → list_all is_name ns ≡ true
names_are [] h = refl
names_are (n ∷ ns) h = and_from (is_name n) (list_all is_name ns) h.0 (names_are ns h.1)

pub some_names : (ns : List (List ℕ)) → SomeSo IsNameText ns → IsWantedText (wanted.Columns ns)
some_names [] h = absurd h
some_names (n ∷ ns) h = names_are (n ∷ ns) h

selected_makes : Makes IsWantedText selected
unfolding selected columns count
selected_makes =
    makes_after IsWantedText (eat word.Star) _ (λ all. makes_after IsWantedText peek_count _ (λ counted. makes_if IsWantedText all _ _
    (makes_pure IsWantedText wanted.All refl)
    (makes_if IsWantedText counted _ _
    (makes_after IsWantedText (expect word.Count) _ (λ a. makes_after IsWantedText (expect word.Open) _ (λ b. makes_after IsWantedText (expect word.Star) _ (λ c. makes_after IsWantedText (expect word.Close) _ (λ e. makes_pure IsWantedText wanted.Count refl)))))
    (makes_then (SomeSo IsNameText) IsWantedText (separated name) _ (separated_makes IsNameText name name_makes) (λ ns h. makes_pure IsWantedText (wanted.Columns ns) (some_names ns h))))))

abbrev pub IsQueryText : Dialect → Query → Type 0
IsQueryText d q = is_query d q ≡ true

query_is : (d : Dialect) (w : Wanted) (table : List ℕ) (test : Option Test) → IsWantedText w → IsObjectText d table → IsWholeWhere test → IsQueryText d (record { wanted = w; table = table; test = test })
query_is d w table test a b c = and_from (is_wanted w) (is_object d table && is_where test) a (and_from (is_object d table) (is_where test) b (option_where test c))

pub query_makes : NumberOfSpells → (d : Dialect) → Makes (IsQueryText d) (query d)
unfolding query
query_makes spells d =
    makes_after (IsQueryText d) (expect word.Select) _ (λ a. makes_then IsWantedText (IsQueryText d) selected _ selected_makes (λ w is_wanted. makes_after (IsQueryText d) (expect word.From) _ (λ b.
    makes_then (IsObjectText d) (IsQueryText d) (object d) _ (object_makes d) (λ table is_table. makes_then IsWholeWhere (IsQueryText d) where_test _ (where_makes (any_test_makes (literals spells))) (λ test is_test.
    makes_pure (IsQueryText d) (record { wanted = w; table = table; test = test }) (query_is d w table test is_wanted is_table is_test))))))

pub queries_can : NumberOfSpells → QueriesCanBeWritten
unfolding query_in
queries_can spells d text q e = whole_makes (IsQueryText d) (query d) d text q (query_makes spells d) e
