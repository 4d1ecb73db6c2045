-- What INSERT, UPDATE and DELETE give is a statement of the dialect.
use Rattle.std.proofs.Common.{◌≡◌, ℕ, true, List, [], ◌∷◌, Option, refl}
use Rattle.std.specs.List.{list_all}
use Rattle.std.proofs.lemmas.Bool.{and_from}
use Rattle.lq_base.specs.Laws.{NumberOfSpells}
use Rattle.lq_base.specs.Name.{is_name, is_object}
use Rattle.lq_base.specs.declared.dialect.Dialect.{Dialect}
use Rattle.lq_base.specs.declared.literal.Literal.{Literal}
use Rattle.lq_model.specs.Comparison.{is_literal}
use Rattle.lq_model.specs.SqlParser.{enclosed, expect, peek, same_kind, separated}
use Rattle.lq_model.specs.SqlPart.{literal, name, object}
use Rattle.lq_model.specs.SqlRows.{assignment, delete, insert, stated_columns, update}
use Rattle.lq_model.specs.SqlTest.{where_test}
use Rattle.lq_model.specs.declared.statement.Statement.TheVariants.{Delete, Insert, Update}
use Rattle.lq_model.specs.declared.test.Test.{Test}
use Rattle.lq_model.specs.declared.word.WordKind.TheVariants as word
use Rattle.lq_parse.proofs.CanWrite.{literals, names_are, option_where}
use Rattle.lq_parse.proofs.Makes.{AllSo, IsLiteralText, IsNameText, IsObjectText, IsWholeWhere, Makes, SomeSo, any_test_makes, makes_after, makes_if, makes_pure, makes_then, name_makes, object_makes, separated_makes, where_makes}
use Rattle.lq_statement.proofs.Parts.{Is, enclosed_makes, join, some_all}

literals_are : (ls : List Literal) → AllSo IsLiteralText ls → list_all is_literal ls ≡ true
literals_are [] h = refl
literals_are (l ∷ ls) h = and_from (is_literal l) (list_all is_literal ls) h.0 (literals_are ls h.1)

columns_make : Makes (AllSo IsNameText) stated_columns
unfolding stated_columns
columns_make = makes_after (AllSo IsNameText) peek _ (λ found. makes_if (AllSo IsNameText) (same_kind found word.Open) _ _ (some_all IsNameText (enclosed name) (enclosed_makes IsNameText name name_makes)) (makes_pure (AllSo IsNameText) [] tt))

insert_is : (d : Dialect) (t : List ℕ) (ns : List (List ℕ)) (ls : List Literal) → IsObjectText d t → AllSo IsNameText ns → SomeSo IsLiteralText ls → Is d (Insert t ns ls)
insert_is d t ns [] h g k = absurd k
insert_is d t ns (l ∷ ls) h g k =
    and_from (is_object d t) _ h (and_from (list_all is_name ns) _ (names_are ns g) (literals_are (l ∷ ls) k))

pub insert_makes : NumberOfSpells → (d : Dialect) → Makes (Is d) (insert d)
unfolding insert
insert_makes spells d =
    makes_after (Is d) (expect word.Into) _ (λ a. makes_then (IsObjectText d) (Is d) (object d) _ (object_makes d) (λ t h. makes_then (AllSo IsNameText) (Is d) stated_columns _ columns_make (λ ns g. makes_after (Is d) (expect word.Values) _ (λ b.
    makes_then (SomeSo IsLiteralText) (Is d) (enclosed literal) _ (enclosed_makes IsLiteralText literal (literals spells)) (λ ls k. makes_pure (Is d) (Insert t ns ls) (insert_is d t ns ls h g k))))))

abbrev IsSet : List ℕ × Literal → Type 0
IsSet s = IsNameText s.0 × IsLiteralText s.1

assignment_makes : NumberOfSpells → Makes IsSet assignment
unfolding assignment
assignment_makes spells =
    makes_then IsNameText IsSet name _ name_makes (λ n h. makes_after IsSet (expect word.Equal) _ (λ a. makes_then IsLiteralText IsSet literal _ (literals spells) (λ l g. makes_pure IsSet (n, l) (h, g))))

abbrev AreSets : List (List ℕ × Literal) → Type 0
AreSets sets = (list_all (λ s. is_name s.0) sets ≡ true) × (list_all (λ s. is_literal s.1) sets ≡ true)

sets_are : (sets : List (List ℕ × Literal)) → AllSo IsSet sets → AreSets sets
sets_are [] h = (refl, refl)
sets_are (s ∷ sets) h =
    let more = sets_are sets h.1 in
    (and_from (is_name s.0) (list_all (λ s. is_name s.0) sets) h.0.0 more.0, and_from (is_literal s.1) (list_all (λ s. is_literal s.1) sets) h.0.1 more.1)

update_is : (d : Dialect) (t : List ℕ) (sets : List (List ℕ × Literal)) (test : Option Test) → IsObjectText d t → SomeSo IsSet sets → IsWholeWhere test → Is d (Update t sets test)
update_is d t [] test h g k = absurd g
update_is d t (s ∷ sets) test h g k =
    let these = sets_are (s ∷ sets) g in
    and_from (is_object d t) _ h (and_from (list_all (λ s. is_name s.0) (s ∷ sets)) _ these.0 (and_from (list_all (λ s. is_literal s.1) (s ∷ sets)) _ these.1 (option_where test k)))

pub update_makes : NumberOfSpells → (d : Dialect) → Makes (Is d) (update d)
unfolding update
update_makes spells d =
    makes_then (IsObjectText d) (Is d) (object d) _ (object_makes d) (λ t h. makes_after (Is d) (expect word.Set) _ (λ a. makes_then (SomeSo IsSet) (Is d) (separated assignment) _ (separated_makes IsSet assignment (assignment_makes spells)) (λ sets g.
    makes_then IsWholeWhere (Is d) where_test _ (where_makes (any_test_makes (literals spells))) (λ test k. makes_pure (Is d) (Update t sets test) (update_is d t sets test h g k)))))

delete_is : (d : Dialect) (t : List ℕ) (test : Option Test) → IsObjectText d t → IsWholeWhere test → Is d (Delete t test)
delete_is d t test h k = join h (option_where test k)

pub delete_makes : NumberOfSpells → (d : Dialect) → Makes (Is d) (delete d)
unfolding delete
delete_makes spells d =
    makes_after (Is d) (expect word.From) _ (λ a. makes_then (IsObjectText d) (Is d) (object d) _ (object_makes d) (λ t h. makes_then IsWholeWhere (Is d) where_test _ (where_makes (any_test_makes (literals spells))) (λ test k. makes_pure (Is d) (Delete t test) (delete_is d t test h k))))
