-- Queries: their canonical words, and that they are read from them.
use Rattle.std.proofs.Common.{◌≡◌, ℕ, true, false, not, ◌&&◌, List, [], ◌∷◌, ◌++◌, Option, Some, None, option_map, ap, ◌∙◌, refl, arith}
use Rattle.std.specs.List.{list_all}
use Rattle.std.specs.Prelude.{codes}
use Rattle.std.proofs.lemmas.Bool.{and_parts}
use Rattle.lq_base.specs.Name.{is_name, is_object, parts_of}
use Rattle.lq_base.specs.Sql.{length_at}
use Rattle.lq_base.specs.declared.dialect.Dialect.{Dialect}
use Rattle.lq_base.specs.declared.dialect.Dialect.TheVariants.{Postgresql, Mysql}
use Rattle.lq_model.specs.Catalogue.{is_empty}
use Rattle.lq_model.specs.TestText as text
use Rattle.lq_model.specs.TestText.{name_text, names_text, query_text, wanted_text, where_text}
use Rattle.lq_model.specs.SqlParser.{after, ended, expect, same_kind, sees, to_end}
use Rattle.lq_model.specs.SqlPart.{name}
use Rattle.lq_model.specs.SqlQuery.{columns, count, query, sees_count, selected}
use Rattle.lq_model.specs.SqlTest.{where_test}
use Rattle.lq_model.specs.SqlText.{query_in}
use Rattle.lq_model.specs.SqlWord.{bare, folded, kind_of_word, with_text, words}
use Rattle.lq_model.specs.Step.{is_wanted, is_where}
use Rattle.lq_model.specs.declared.query.Query.{Query}
use Rattle.lq_model.specs.declared.query.Wanted.{Wanted}
use Rattle.lq_model.specs.declared.query.Wanted.TheVariants as wanted
use Rattle.lq_model.specs.declared.test.Test.{Test}
use Rattle.lq_model.specs.declared.word.Word.{Word}
use Rattle.lq_model.specs.declared.word.WordKind.TheVariants as word
use Rattle.lq_parse.specs.Laws.{QueriesReadBack}
use Rattle.lq_parse.proofs.Again.{any_test_again, nothing_ends, test_words}
use Rattle.lq_parse.proofs.Bytes.{Stops}
use Rattle.lq_parse.proofs.Fronts.{Says, blank_says, capitals_say, keyword_says, mark_says}
use Rattle.lq_parse.proofs.Lists.{EachItem, IsAgain, listed_says, separated_again, tail_words}
use Rattle.lq_parse.proofs.Objects.{IsReadName, IsReadObject, name_fact, name_long, name_read, name_word, object_again, words_in}
use Rattle.lq_parse.proofs.Quotes.{name_says}
use Rattle.lq_parse.proofs.ReadBack.{all_words, where_facts, whole_is}
use Rattle.lq_parse.proofs.Spoken.{Below, close_says, open_says, test_says, then}
use Rattle.lq_parse.proofs.Written.{test_fact}

abbrev pub names_words : List (List ℕ) → List Word → List Word
names_words [] rest = rest
names_words (n ∷ ns) rest = name_word n (tail_words name_word ns rest)

abbrev pub wanted_words : Dialect → Wanted → List Word → List Word
wanted_words d wanted.All rest = bare word.Select ∷ bare word.Star ∷ bare word.From ∷ rest
wanted_words d wanted.Count rest = bare word.Select ∷ with_text word.Count (folded d (codes "COUNT")) ∷ bare word.Open ∷ bare word.Star ∷ bare word.Close ∷ bare word.From ∷ rest
wanted_words d (wanted.Columns ns) rest = bare word.Select ∷ names_words ns (bare word.From ∷ rest)

abbrev pub where_words : Option Test → List Word → List Word
where_words None rest = rest
where_words (Some t) rest = bare word.Where ∷ test_words t rest

-- names

pub name_again : IsAgain IsReadName name name_word
name_again = record { read = name_read; long = name_long }

pub each_name : (ns : List (List ℕ)) → list_all is_name ns ≡ true → EachItem IsReadName ns
each_name [] is = tt
each_name (n ∷ ns) is =
    let both = and_parts (is_name n) (list_all is_name ns) is in
    (name_fact n both.0, each_name ns both.1)

pub any_names : (ns : List (List ℕ)) → EachItem (λ n. Unit {0}) ns
any_names [] = tt
any_names (n ∷ ns) = (tt, any_names ns)

pub names_say : Below → (d : Dialect) (n : List ℕ) (ns : List (List ℕ)) (rest : List ℕ) → Stops rest → Says d (names_text d (n ∷ ns)) (names_words (n ∷ ns)) rest
names_say below d n ns rest stop =
    listed_says below d (λ x. Unit {0}) (name_text d) name_word (λ x more is end. name_says below.go_on below.names d x more end) n ns rest tt (any_names ns) stop

-- phrases

select_says : Below → (d : Dialect) (rest : List ℕ) → words d (codes "SELECT " ++ rest) ≡ option_map (λ ws. bare word.Select ∷ ws) (words d rest)
unfolding kind_of_word
select_says below d rest = keyword_says below.go_on d 83 (codes "ELECT") rest (bare word.Select) refl refl

from_says : Below → (d : Dialect) (rest : List ℕ) → words d (codes " FROM " ++ rest) ≡ option_map (λ ws. bare word.From ∷ ws) (words d rest)
unfolding kind_of_word
from_says below d rest = blank_says below.go_on d (codes "FROM " ++ rest) ∙ keyword_says below.go_on d 70 (codes "ROM") rest (bare word.From) refl refl

where_says : Below → (d : Dialect) (rest : List ℕ) → words d (codes " WHERE " ++ rest) ≡ option_map (λ ws. bare word.Where ∷ ws) (words d rest)
unfolding kind_of_word
where_says below d rest = blank_says below.go_on d (codes "WHERE " ++ rest) ∙ keyword_says below.go_on d 87 (codes "HERE") rest (bare word.Where) refl refl

star_before_blank : Below → (d : Dialect) (rest : List ℕ) → words d (codes "* " ++ rest) ≡ option_map (λ ws. bare word.Star ∷ ws) (words d (32 ∷ rest))
unfolding length_at kind_of_word
star_before_blank below Postgresql rest = mark_says below.go_on Postgresql (codes "*") (32 ∷ rest) word.Star (omega arith) refl refl refl
star_before_blank below Mysql rest = mark_says below.go_on Mysql (codes "*") (32 ∷ rest) word.Star (omega arith) refl refl refl

star_before_close : Below → (d : Dialect) (rest : List ℕ) → words d (codes "*)" ++ rest) ≡ option_map (λ ws. bare word.Star ∷ ws) (words d (41 ∷ rest))
unfolding length_at kind_of_word
star_before_close below Postgresql rest = mark_says below.go_on Postgresql (codes "*") (41 ∷ rest) word.Star (omega arith) refl refl refl
star_before_close below Mysql rest = mark_says below.go_on Mysql (codes "*") (41 ∷ rest) word.Star (omega arith) refl refl refl

count_says : Below → (d : Dialect) (rest : List ℕ) → words d (codes "COUNT(" ++ rest) ≡ option_map (λ ws. with_text word.Count (folded d (codes "COUNT")) ∷ ws) (words d (40 ∷ rest))
unfolding kind_of_word
count_says below d rest = capitals_say below.go_on d 67 (codes "OUNT") (40 ∷ rest) refl refl

-- words at the front of some, and then others
pub step : (d : Dialect) (bytes rest : List ℕ) (f g : List Word → List Word) (more : Option (List Word)) → words d bytes ≡ option_map f (words d rest) → words d rest ≡ option_map g more → words d bytes ≡ option_map (λ ws. f (g ws)) more
step d bytes rest f g more first second = first ∙ ap (option_map f) second ∙ twice more
  where
    twice : (o : Option (List Word)) → option_map f (option_map g o) ≡ option_map (λ ws. f (g ws)) o
    twice None = refl
    twice (Some ws) = refl

wanted_says : Below → (d : Dialect) (w : Wanted) (rest : List ℕ) → is_wanted w ≡ true → Says d (wanted_text d w) (wanted_words d w) rest
unfolding text.words
wanted_says below d wanted.All rest is =
    step d _ (codes "* FROM " ++ rest) (λ ws. bare word.Select ∷ ws) (λ ws. bare word.Star ∷ bare word.From ∷ ws) (words d rest) (select_says below d (codes "* FROM " ++ rest))
    (step d _ (codes " FROM " ++ rest) (λ ws. bare word.Star ∷ ws) (λ ws. bare word.From ∷ ws) (words d rest) (star_before_blank below d (codes "FROM " ++ rest)) (from_says below d rest))
wanted_says below d wanted.Count rest is =
    step d _ (codes "COUNT(*) FROM " ++ rest) (λ ws. bare word.Select ∷ ws) (λ ws. with_text word.Count (folded d (codes "COUNT")) ∷ bare word.Open ∷ bare word.Star ∷ bare word.Close ∷ bare word.From ∷ ws) (words d rest)
    (select_says below d (codes "COUNT(*) FROM " ++ rest))
    (step d _ (codes "(*) FROM " ++ rest) (λ ws. with_text word.Count (folded d (codes "COUNT")) ∷ ws) (λ ws. bare word.Open ∷ bare word.Star ∷ bare word.Close ∷ bare word.From ∷ ws) (words d rest)
    (count_says below d (codes "*) FROM " ++ rest))
    (step d _ (codes "*) FROM " ++ rest) (λ ws. bare word.Open ∷ ws) (λ ws. bare word.Star ∷ bare word.Close ∷ bare word.From ∷ ws) (words d rest)
    (open_says below d (codes "*) FROM " ++ rest))
    (step d _ (codes ") FROM " ++ rest) (λ ws. bare word.Star ∷ ws) (λ ws. bare word.Close ∷ bare word.From ∷ ws) (words d rest)
    (star_before_close below d (codes " FROM " ++ rest))
    (step d _ (codes " FROM " ++ rest) (λ ws. bare word.Close ∷ ws) (λ ws. bare word.From ∷ ws) (words d rest)
    (close_says below d (codes " FROM " ++ rest)) (from_says below d rest)))))
wanted_says below d (wanted.Columns []) rest is = absurd cc
wanted_says below d (wanted.Columns (n ∷ ns)) rest is =
    then d (codes "SELECT " ++ names_text d (n ∷ ns)) (codes " FROM ") rest (λ ws. bare word.Select ∷ names_words (n ∷ ns) ws) (λ ws. bare word.From ∷ ws)
    (then d (codes "SELECT ") (names_text d (n ∷ ns)) (codes " FROM " ++ rest) (λ ws. bare word.Select ∷ ws) (names_words (n ∷ ns))
    (select_says below d _) (names_say below d n ns (codes " FROM " ++ rest) refl))
    (from_says below d rest)

pub where_says_all : Below → (d : Dialect) (test : Option Test) → is_where test ≡ true → Says d (where_text d test) (where_words test) []
unfolding text.words
where_says_all below d None is = nothing (words d [])
  where
    nothing : (o : Option (List Word)) → o ≡ option_map (λ ws. ws) o
    nothing None = refl
    nothing (Some ws) = refl
where_says_all below d (Some t) is =
    let facts = where_facts t is in
    let parts = test_fact below t facts.0 in
    then d (codes " WHERE ") _ [] (λ ws. bare word.Where ∷ ws) (test_words t) (where_says below d _) (test_says below d t [] parts.1 tt)

pub where_stops : (d : Dialect) (test : Option Test) → Stops (where_text d test ++ [])
unfolding text.words
where_stops d None = tt
where_stops d (Some t) = refl

pub query_says : Below → (d : Dialect) (q : Query) → is_wanted q.wanted ≡ true → is_where q.test ≡ true
    → Says d (query_text d q) (λ ws. wanted_words d q.wanted (name_word q.table (where_words q.test ws))) []
unfolding query_text
query_says below d q is can =
    then d (wanted_text d q.wanted ++ name_text d q.table) (where_text d q.test) [] (λ ws. wanted_words d q.wanted (name_word q.table ws)) (where_words q.test)
    (then d (wanted_text d q.wanted) (name_text d q.table) (where_text d q.test ++ []) (wanted_words d q.wanted) (name_word q.table)
    (wanted_says below d q.wanted _ is)
    (name_says below.go_on below.names d q.table (where_text d q.test ++ []) (where_stops d q.test)))
    (where_says_all below d q.test can)

-- and back

no_comma : (rest : List Word) → sees word.Comma (bare word.From ∷ rest) ≡ false
unfolding sees same_kind
no_comma rest = refl

pub columns_again : (n : List ℕ) (ns : List (List ℕ)) (rest : List Word) → IsReadName n → EachItem IsReadName ns
    → columns (names_words (n ∷ ns) (bare word.From ∷ rest)) ≡ Some (wanted.Columns (n ∷ ns), bare word.From ∷ rest)
unfolding columns
columns_again n ns rest one each = rw (separated_again IsReadName name name_word name_again n ns (bare word.From ∷ rest) one each (no_comma rest)) refl

-- the table and the test after FROM
pub where_again : (test : Option Test) → is_where test ≡ true → Below → where_test (where_words test []) ≡ Some (test, [])
unfolding where_test sees after same_kind
where_again None is below = refl
where_again (Some t) is below =
    let facts = where_facts t is in
    let parts = test_fact below t facts.0 in
    rw (any_test_again t [] parts.0 facts.1 facts.2 nothing_ends) refl

abbrev pub wanted_names : Wanted → List (List ℕ)
wanted_names (wanted.Columns names) = names
wanted_names _ = []

pub no_dot : (test : Option Test) → sees word.Dot (where_words test []) ≡ false
unfolding sees same_kind
no_dot None = refl
no_dot (Some t) = refl

-- a name is no `*` and no count
no_others : (n : List ℕ) (o : Option (List ℕ × List ℕ)) (rest : List Word) → (sees word.Star (words_in n o rest) ≡ false) × (sees_count (words_in n o rest) ≡ false)
unfolding sees same_kind sees_count
no_others n None rest = (refl, refl)
no_others n (Some parts) rest = (refl, refl)

columns_selected : (n : List ℕ) (ns : List (List ℕ)) (rest : List Word) → IsReadName n → EachItem IsReadName ns
    → selected (names_words (n ∷ ns) (bare word.From ∷ rest)) ≡ Some (wanted.Columns (n ∷ ns), bare word.From ∷ rest)
unfolding selected after
columns_selected n ns rest one each =
    let others = no_others n (parts_of n) (tail_words name_word ns (bare word.From ∷ rest)) in
    rw (others.0, others.1, columns_again n ns rest one each) refl

columns_query : (d : Dialect) (n : List ℕ) (ns : List (List ℕ)) (table : List ℕ) (test : Option Test) → IsReadName n → EachItem IsReadName ns → IsReadObject d table
    → where_test (where_words test []) ≡ Some (test, []) → query d (wanted_words d (wanted.Columns (n ∷ ns)) (name_word table (where_words test []))) ≡ Some (record { wanted = wanted.Columns (n ∷ ns); table = table; test = test }, [])
unfolding query expect sees same_kind
columns_query d n ns table test first each one end = rw (columns_selected n ns (name_word table (where_words test [])) first each, object_again d table (where_words test []) one (no_dot test), end) refl

pub query_again : (d : Dialect) (w : Wanted) (table : List ℕ) (test : Option Test) → is_wanted w ≡ true → EachItem IsReadName (wanted_names w) → IsReadObject d table
    → where_test (where_words test []) ≡ Some (test, []) → query d (wanted_words d w (name_word table (where_words test []))) ≡ Some (record { wanted = w; table = table; test = test }, [])
unfolding query selected sees_count count expect sees after same_kind
query_again d wanted.All table test is each one end = rw (object_again d table (where_words test []) one (no_dot test), end) refl
query_again d wanted.Count table test is each one end = rw (object_again d table (where_words test []) one (no_dot test), end) refl
query_again d (wanted.Columns []) table test is each one end = absurd cc
query_again d (wanted.Columns (n ∷ ns)) table test is each one end = columns_query d n ns table test each.0 each.1 one end

whole_again : (d : Dialect) (ws : List Word) (q : Query) → query d ws ≡ Some (q, []) → to_end (query d) ws ≡ Some (q, [])
unfolding ended expect sees after same_kind
whole_again d ws q e = rw e refl

pub queries_read : Below → QueriesReadBack
unfolding query_in
queries_read below d q can =
    let a = and_parts (is_wanted q.wanted) (is_object d q.table && is_where q.test) can in
    let b = and_parts (is_object d q.table) (is_where q.test) a.1 in
    whole_is (query d) d (query_text d q) (wanted_words d q.wanted (name_word q.table (where_words q.test []))) [] q
    (all_words d (query_text d q) (λ ws. wanted_words d q.wanted (name_word q.table (where_words q.test ws))) (query_says below d q a.0 b.1))
    (whole_again d (wanted_words d q.wanted (name_word q.table (where_words q.test []))) q (query_again d q.wanted q.table q.test a.0 (each_wanted q.wanted a.0) b.0 (where_again q.test b.1 below)))
  where
    each_wanted : (w : Wanted) → is_wanted w ≡ true → EachItem IsReadName (wanted_names w)
    each_wanted wanted.All is = tt
    each_wanted wanted.Count is = tt
    each_wanted (wanted.Columns ns) is = each_name ns (and_parts (not (is_empty ns)) (list_all is_name ns) is).1
