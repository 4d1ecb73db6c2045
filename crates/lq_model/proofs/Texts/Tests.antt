-- Worked examples: the texts of tests, and how NOT, AND and OR bind where no parentheses stand.
use Rattle.std.specs.Prelude.{◌≡◌, ◌++◌, ℕ, zero, suc, None, Some, List, [], ◌∷◌, codes, false, map, neg_ℤ, pos, refl, replicate, true}
use Rattle.std.specs.Fmt.{digits}
use Rattle.lq_base.specs.declared.dialect.Dialect.TheVariants.{Mysql, Postgresql}
use Rattle.lq_base.specs.declared.literal.Literal.TheVariants as literal
use Rattle.lq_base.specs.Sql.{lexemes, length_at}
use Rattle.lq_base.specs.Number.{number_of}
use Rattle.lq_model.proofs.ExampleWorld.{id, number, text, up}
use Rattle.lq_model.proofs.Texts.Spell.{SpellTests}
use Rattle.lq_model.specs.TestText.{words as phrase_words, name_text, quoted_text, string_text, literal_text, test_text}
use Rattle.lq_model.specs.SqlText.{test_in}
use Rattle.lq_model.specs.SqlWord.{words, kind_of_word, unquoted}
use Rattle.lq_model.specs.SqlParser.{same_kind, sees, after, expect, ended, many, many_of, led_by}
use Rattle.lq_model.specs.SqlPart.{name, name_of, literal as literal_rule, number as number_rule}
use Rattle.lq_model.specs.SqlTest.{any_test, comparison, nullness, operand, operator, primary, product, sum, term}
use Rattle.lq_model.specs.declared.test.Op.TheVariants.{Eq, Ge, Gt, Le, Lt, Ne}
use Rattle.lq_model.specs.declared.test.Operand.TheVariants as side
use Rattle.lq_model.specs.declared.test.Test.{And, Compare, IsNull, Not, NotNull, Or, Test}

-- a column equal to a number
abbrev is : List ℕ → ℕ → Test
is column n = Compare Eq (side.Column column) (side.Literal (number (pos n)))

abbrev a : Test
a = is (codes "a") 1

abbrev b : Test
b = is (codes "b") 2

abbrev c : Test
c = IsNull (side.Column (codes "c"))

pub tests_spelled :
    SpellTests Postgresql (
    (a, codes "\"a\" = 1")
    ∷ (Compare Ne (side.Column id) (side.Column up), codes "\"id\" <> \"up\"")
    ∷ (Compare Lt (side.Literal (number (neg_ℤ (pos 1)))) (side.Column up), codes "-1 < \"up\"")
    ∷ (Compare Le (side.Column id) (side.Literal (literal.Fixed (pos 25) 1)), codes "\"id\" <= 2.5")
    ∷ (Compare Gt (side.Column id) (side.Literal (text (codes "it's"))), codes "\"id\" > 'it''s'")
    ∷ (Compare Ge (side.Literal (literal.Bool true)) (side.Literal (literal.Bool false)), codes "TRUE >= FALSE")
    ∷ (Compare Eq (side.Column id) (side.Literal literal.Null), codes "\"id\" = NULL")
    ∷ (c, codes "\"c\" IS NULL")
    ∷ (NotNull (side.Literal (number (pos 0))), codes "0 IS NOT NULL")
    ∷ (And a b, codes "(\"a\" = 1 AND \"b\" = 2)")
    ∷ (Or a b, codes "(\"a\" = 1 OR \"b\" = 2)")
    ∷ (Not c, codes "(NOT \"c\" IS NULL)")
    ∷ (Or a (And b (Not c)), codes "(\"a\" = 1 OR (\"b\" = 2 AND (NOT \"c\" IS NULL)))")
    ∷ (And (And a b) c, codes "((\"a\" = 1 AND \"b\" = 2) AND \"c\" IS NULL)")
    ∷ (And a (And b c), codes "(\"a\" = 1 AND (\"b\" = 2 AND \"c\" IS NULL))")
    ∷ [])
    × SpellTests Mysql (
    (Compare Ne (side.Column id) (side.Column up), codes "`id` <> `up`")
    ∷ (Compare Eq (side.Column id) (side.Literal (text (codes "a\\'"))), codes "`id` = 'a\\\\'''")
    ∷ (NotNull (side.Column up), codes "`up` IS NOT NULL")
    ∷ (Not (Or (And a b) (Not c)), codes "(NOT ((`a` = 1 AND `b` = 2) OR (NOT `c` IS NULL)))")
    ∷ [])
unfolding digits phrase_words name_text quoted_text string_text literal_text test_text Rattle.lq_model.specs.declared.test.Test.TheBlock.hidden-the_row-Test-0 denote.Hole.Carrier.hidden test_in words kind_of_word unquoted any_test comparison nullness operand operator primary product sum term literal_rule number_rule number_of many many_of led_by same_kind sees after expect ended name name_of lexemes length_at
tests_spelled = ((refl, refl, refl), (refl, refl, refl))

-- NOT binds first, then AND, then OR, both to the left; `!=` is `<>`; a `;` may stand at the end
pub tests_read :
    (map (test_in Postgresql) (
    codes "a = 1 or b = 2 and not c is null" ∷ codes "a = 1 and b = 2 or c is null" ∷ codes "a = 1 and b = 2 and c is null" ∷ codes "a = 1 or b = 2 or c is null" ∷ codes "(a = 1 or b = 2) and c is null"
    ∷ codes "not a = 1 and b = 2" ∷ codes "not not a = 1" ∷ codes "not (a = 1 and b = 2)" ∷ codes "((a = 1))" ∷ codes "id != up" ∷ codes "a=1;" ∷ codes "id<=up" ∷ [])
    ≡ map Some (
    Or a (And b (Not c)) ∷ Or (And a b) c ∷ And (And a b) c ∷ Or (Or a b) c ∷ And (Or a b) c
    ∷ And (Not a) b ∷ Not (Not a) ∷ Not (And a b) ∷ a ∷ Compare Ne (side.Column id) (side.Column up) ∷ a ∷ Compare Le (side.Column id) (side.Column up) ∷ []))
    × (map (test_in Mysql) (codes "`a` = 1 OR b != 2" ∷ codes "\"a\" = 1" ∷ [])
    ≡ map Some (Or a (Compare Ne (side.Column (codes "b")) (side.Literal (number (pos 2)))) ∷ Compare Eq (side.Literal (text (codes "a"))) (side.Literal (number (pos 1))) ∷ []))
    × (map (test_in Postgresql) (
    codes "" ∷ codes "a" ∷ codes "a =" ∷ codes "= 1" ∷ codes "a = 1 b = 2" ∷ codes "a = 1 and" ∷ codes "(a = 1" ∷ codes "a = 1)" ∷ codes "a is" ∷ codes "a not null" ∷ codes "a == 1" ∷ codes "a = b = c" ∷ codes "a is not not null"
    ∷ codes "a < = 1" ∷ codes "a ! = 1" ∷ codes "a = (1)" ∷ codes "not" ∷ codes "true" ∷ codes "a = default" ∷ codes "SELEC" ∷ [])
    ≡ replicate 20 None)
unfolding test_in words kind_of_word unquoted Rattle.lq_model.specs.declared.test.Test.TheBlock.hidden-the_row-Test-0 denote.Hole.Carrier.hidden any_test comparison nullness operand operator primary product sum term literal_rule number_rule many many_of led_by same_kind sees after expect ended name name_of lexemes length_at
tests_read = (refl, refl, refl)

-- so many tests in one another
abbrev turned : ℕ → Test
turned zero = c
turned (suc n) = Not (turned n)

abbrev nots : ℕ → List ℕ
nots zero = []
nots (suc n) = codes "not " ++ nots n

abbrev in_parentheses : ℕ → List ℕ
in_parentheses n = replicate n 40 ++ codes "c is null" ++ replicate n 41

-- 64 levels of tests, and 64 of parentheses, and no more
pub levels_read :
    (test_in Postgresql (nots 64 ++ codes "c is null") ≡ Some (turned 64))
    × (test_in Postgresql (nots 65 ++ codes "c is null") ≡ None)
    × (test_in Postgresql (in_parentheses 64) ≡ Some c)
    × (test_in Postgresql (in_parentheses 65) ≡ None)
unfolding test_in words kind_of_word unquoted Rattle.lq_model.specs.declared.test.Test.TheBlock.hidden-the_row-Test-0 denote.Hole.Carrier.hidden any_test comparison nullness operand operator primary product sum term many many_of led_by same_kind sees after expect ended name name_of lexemes length_at
levels_read = (refl, refl, refl, refl)
