-- INSERT, UPDATE and DELETE are read from their texts.
use Rattle.std.proofs.Common.{◌≡◌, ◌≢◌, ◌≤◌, ℕ, suc, true, false, List, [], ◌∷◌, ◌++◌, length, map, Option, Some, None, refl, arith}
use Rattle.std.specs.List.{list_all}
use Rattle.std.proofs.lemmas.Bool.{and_parts}
use Rattle.lq_base.specs.Name.{is_name}
use Rattle.lq_base.specs.declared.dialect.Dialect.{Dialect}
use Rattle.lq_base.specs.declared.literal.Literal.{Literal}
use Rattle.lq_model.specs.TestText as text
use Rattle.lq_model.specs.Comparison.{is_literal}
use Rattle.lq_model.specs.SqlParser.{after, ended, expect, same_kind, sees}
use Rattle.lq_model.specs.SqlRows.{assignment, delete, insert, stated_columns, update}
use Rattle.lq_model.specs.SqlStatement.{statement}
use Rattle.lq_model.specs.SqlText.{statement_in}
use Rattle.lq_model.specs.SqlWord.{bare, kind_of_word, words}
use Rattle.lq_model.specs.Step.{is_where}
use Rattle.lq_model.specs.StatementText.{columns_text, set_text, text_of}
use Rattle.lq_model.specs.TestText.{listed, where_text}
use Rattle.lq_model.specs.declared.statement.Statement.TheVariants.{Delete, Insert, Update}
use Rattle.lq_model.specs.declared.test.Test.{Test}
use Rattle.lq_model.specs.declared.word.Word.{Word}
use Rattle.lq_model.specs.declared.word.WordKind.TheVariants as word
use Rattle.lq_parse.proofs.Again.{IsLiteral, literal_again, literal_words}
use Rattle.lq_parse.proofs.Bytes.{Stops}
use Rattle.lq_parse.proofs.Fronts.{Says}
use Rattle.lq_parse.proofs.Lists.{EachItem, IsAgain, listed_says, separated_again, tail_words}
use Rattle.lq_parse.proofs.Objects.{IsReadName, IsReadObject, name_fact, name_long, name_read, name_word, object_again}
use Rattle.lq_parse.proofs.QueryAgain.{names_words, no_dot, where_again, where_says_all, where_stops, where_words}
use Rattle.lq_parse.proofs.Spoken.{Below, then}
use Rattle.lq_parse.proofs.Written.{literal_fact}
use Rattle.lq_statement.proofs.ListsAgain.{literal_long, literal_said, names_again, names_said, values_again, values_said}
use Rattle.lq_statement.proofs.Phrases as say
use Rattle.lq_statement.proofs.Said.{Closed, Tail, cl, ct, oc, opened, ready, same_words}
use Rattle.lq_statement.proofs.Whole.{named, read_back, read_says}

-- INSERT

abbrev columns_said : Below → (d : Dialect) (n : List ℕ) (ns : List (List ℕ)) → Tail d (columns_text d (n ∷ ns))
unfolding text.words
columns_said below d n ns =
    let part = ready (cl (oc (opened (say.open_next below d)) (names_said below d n ns)) (say.close below d)) in
    record { these = part.these; is = part.is; stops = λ rest stop. refl }

abbrev nothing : (d : Dialect) → Tail d []
nothing d = record { these = λ ws. ws; is = λ rest stop. same_words (words d rest); stops = λ rest stop. stop }

insert_all_back : Below → (d : Dialect) (t : List ℕ) (l : Literal) (ls : List Literal) → IsReadObject d t → is_literal l ≡ true → list_all is_literal ls ≡ true → IsLiteral l → EachItem IsLiteral ls
    → statement_in d (text_of d (Insert t [] (l ∷ ls))) ≡ Some (Insert t [] (l ∷ ls))
unfolding text.words kind_of_word statement insert stated_columns sees same_kind after expect ended
insert_all_back below d t l ls h one all k each =
    read_back d (Insert t [] (l ∷ ls)) _ (ready (cl (oc (cl (ct (oc (say.insert_into below d) (named below d t)) (nothing d)) (say.values below d)) (values_said below d l ls one all)) (say.close below d)))
    (rw (object_again d t (bare word.Values ∷ bare word.Open ∷ literal_words l (tail_words literal_words ls (bare word.Close ∷ []))) h refl, values_again l ls [] k each) refl)

insert_some_back : Below → (d : Dialect) (t n : List ℕ) (ns : List (List ℕ)) (l : Literal) (ls : List Literal) → IsReadObject d t → IsReadName n → EachItem IsReadName ns → is_literal l ≡ true → list_all is_literal ls ≡ true → IsLiteral l → EachItem IsLiteral ls
    → statement_in d (text_of d (Insert t (n ∷ ns) (l ∷ ls))) ≡ Some (Insert t (n ∷ ns) (l ∷ ls))
unfolding text.words kind_of_word statement insert stated_columns sees same_kind after expect ended
insert_some_back below d t n ns l ls h g more one all k each =
    read_back d (Insert t (n ∷ ns) (l ∷ ls)) _ (ready (cl (oc (cl (ct (oc (say.insert_into below d) (named below d t)) (columns_said below d n ns)) (say.values below d)) (values_said below d l ls one all)) (say.close below d)))
    (rw (object_again d t (bare word.Open ∷ names_words (n ∷ ns) (bare word.Close ∷ bare word.Values ∷ bare word.Open ∷ literal_words l (tail_words literal_words ls (bare word.Close ∷ [])))) h refl, names_again n ns (bare word.Values ∷ bare word.Open ∷ literal_words l (tail_words literal_words ls (bare word.Close ∷ []))) g more, values_again l ls [] k each) refl)

pub insert_back : Below → (d : Dialect) (t : List ℕ) (ns : List (List ℕ)) (ls : List Literal) → IsReadObject d t → EachItem IsReadName ns → list_all is_literal ls ≡ true → EachItem IsLiteral ls → ls ≢ []
    → statement_in d (text_of d (Insert t ns ls)) ≡ Some (Insert t ns ls)
insert_back below d t ns [] h more all each some = absurd (some refl)
insert_back below d t [] (l ∷ ls) h more all each some = let both = and_parts (is_literal l) (list_all is_literal ls) all in insert_all_back below d t l ls h both.0 both.1 each.0 each.1
insert_back below d t (n ∷ ns) (l ∷ ls) h more all each some = let both = and_parts (is_literal l) (list_all is_literal ls) all in insert_some_back below d t n ns l ls h more.0 more.1 both.0 both.1 each.0 each.1

-- a test at the end

with_where : Below → (d : Dialect) (bytes : List ℕ) (part : Closed d bytes) (test : Option Test) → is_where test ≡ true → Says d (bytes ++ where_text d test) (λ ws. part.these (where_words test ws)) []
with_where below d bytes part test can = then d bytes (where_text d test) [] part.these (where_words test) (part.is (where_text d test ++ []) (where_stops d test)) (where_says_all below d test can)

-- DELETE

pub delete_back : Below → (d : Dialect) (t : List ℕ) (test : Option Test) → IsReadObject d t → is_where test ≡ true → statement_in d (text_of d (Delete t test)) ≡ Some (Delete t test)
unfolding text.words kind_of_word statement delete sees same_kind after expect ended
delete_back below d t test h can =
    read_says d (Delete t test) _ (λ ws. bare word.Delete ∷ bare word.From ∷ name_word t (where_words test ws)) (with_where below d _ (oc (say.delete_from below d) (named below d t)) test can)
    (rw (object_again d t (where_words test []) h (no_dot test), where_again test can below) refl)

-- UPDATE

abbrev set_words : List ℕ × Literal → List Word → List Word
set_words s rest = name_word s.0 (bare word.Equal ∷ literal_words s.1 rest)

abbrev IsSet : List ℕ × Literal → Type 0
IsSet s = IsReadName s.0 × IsLiteral s.1

abbrev CanStand : List ℕ × Literal → Type 0
CanStand s = is_literal s.1 ≡ true

set_again : (s : List ℕ × Literal) (rest : List Word) → IsSet s → assignment (set_words s rest) ≡ Some (s, rest)
unfolding assignment expect sees same_kind
set_again (n, l) rest h = rw (name_read n (bare word.Equal ∷ literal_words l rest) h.0, literal_again l rest h.1) refl

set_long : (s : List ℕ × Literal) (rest : List Word) → suc (length rest) ≤ length (set_words s rest)
set_long (n, l) rest = omega (arith, literal_long l rest, name_long n (bare word.Equal ∷ literal_words l rest))

set_is_again : IsAgain IsSet assignment set_words
set_is_again = record { read = set_again; long = set_long }

set_says : Below → (d : Dialect) (s : List ℕ × Literal) (rest : List ℕ) → CanStand s → Stops rest → Says d (set_text d s) (set_words s) rest
unfolding text.words kind_of_word
set_says below d s rest is stop = (oc (cl (named below d s.0) (say.equal below d)) (literal_said below d s.1 is)).is rest stop

each_stands : (sets : List (List ℕ × Literal)) → list_all (λ s. is_literal s.1) sets ≡ true → EachItem CanStand sets
each_stands [] all = tt
each_stands (s ∷ sets) all = let both = and_parts (is_literal s.1) (list_all (λ s. is_literal s.1) sets) all in (both.0, each_stands sets both.1)

pub each_set : Below → (sets : List (List ℕ × Literal)) → list_all (λ s. is_name s.0) sets ≡ true → list_all (λ s. is_literal s.1) sets ≡ true → EachItem IsSet sets
each_set below [] names literals = tt
each_set below (s ∷ sets) names literals =
    let a = and_parts (is_name s.0) (list_all (λ s. is_name s.0) sets) names in
    let b = and_parts (is_literal s.1) (list_all (λ s. is_literal s.1) sets) literals in
    ((name_fact s.0 a.0, literal_fact below s.1 b.0), each_set below sets a.1 b.1)

where_begins : (test : Option Test) → sees word.Comma (where_words test []) ≡ false
unfolding sees same_kind
where_begins None = refl
where_begins (Some t) = refl

abbrev sets_said : Below → (d : Dialect) (s : List ℕ × Literal) (sets : List (List ℕ × Literal)) → CanStand s → EachItem CanStand sets → Closed d (listed (map (set_text d) (s ∷ sets)))
sets_said below d s sets one each = record { these = λ ws. set_words s (tail_words set_words sets ws); is = λ rest stop. listed_says below d CanStand (set_text d) set_words (set_says below d) s sets rest one each stop }

pub update_back : Below → (d : Dialect) (t : List ℕ) (s : List ℕ × Literal) (sets : List (List ℕ × Literal)) (test : Option Test) → IsReadObject d t → IsSet s → EachItem IsSet sets → CanStand s → list_all (λ s. is_literal s.1) sets ≡ true
    → is_where test ≡ true → statement_in d (text_of d (Update t (s ∷ sets) test)) ≡ Some (Update t (s ∷ sets) test)
unfolding text.words kind_of_word statement update sees same_kind after expect ended
update_back below d t s sets test h one each stands all can =
    read_says d (Update t (s ∷ sets) test) _ (λ ws. bare word.Update ∷ name_word t (bare word.Set ∷ set_words s (tail_words set_words sets (where_words test ws))))
    (with_where below d _ (oc (cl (oc (say.update below d) (named below d t)) (say.set below d)) (sets_said below d s sets stands (each_stands sets all))) test can)
    (rw (object_again d t (bare word.Set ∷ set_words s (tail_words set_words sets (where_words test []))) h refl, separated_again IsSet assignment set_words set_is_again s sets (where_words test []) one each (where_begins test), where_again test can below) refl)
