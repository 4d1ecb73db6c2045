-- Worked examples: the texts of INSERT, UPDATE and DELETE, those of the tracking tables among them.
use Rattle.std.specs.Prelude.{ℕ, None, Some, List, [], ◌∷◌, codes, false, neg_ℤ, pos, refl, true}
use Rattle.std.specs.Fmt.{digits}
use Rattle.lq_base.specs.declared.dialect.Dialect.TheVariants.{Mysql, Postgresql}
use Rattle.lq_base.specs.declared.literal.Literal.{Literal}
use Rattle.lq_base.specs.declared.literal.Literal.TheVariants as literal
use Rattle.lq_base.specs.Sql.{lexemes, length_at}
use Rattle.lq_base.specs.Number.{number_of}
use Rattle.lq_model.proofs.ExampleWorld.{id, number, text, up, where_id}
use Rattle.lq_model.proofs.Texts.Spell.{Mean, Spell, SpellNothing}
use Rattle.lq_model.specs.TestText.{words as phrase_words, name_text, quoted_text, string_text, literal_text, test_text}
use Rattle.lq_model.specs.SqlText.{statement_in}
use Rattle.lq_model.specs.SqlWord.{words, kind_of_word, unquoted}
use Rattle.lq_model.specs.SqlStatement.{statement}
use Rattle.lq_model.specs.SqlRows.{assignment, delete, insert, stated_columns, update}
use Rattle.lq_model.specs.SqlParser.{same_kind, sees, after, expect, ended, enclosed, separated, many, many_of, led_by}
use Rattle.lq_model.specs.SqlPart.{name, name_of, literal as literal_rule, number as number_rule, object}
use Rattle.lq_model.specs.SqlTest.{any_test, comparison, nullness, operand, operator, primary, product, sum, term, where_test}
use Rattle.lq_model.specs.declared.statement.Statement.{Statement}
use Rattle.lq_model.specs.declared.statement.Statement.TheVariants.{Delete, Insert, Update}
use Rattle.lq_model.specs.declared.test.Op.TheVariants.{Eq}
use Rattle.lq_model.specs.declared.test.Operand.TheVariants as side
use Rattle.lq_model.specs.declared.test.Test.{And, Compare, IsNull, Test}

abbrev equal : List ℕ → List ℕ → Test
equal column value = Compare Eq (side.Column column) (side.Literal (text value))

-- the row of a changeset
abbrev one_row : Test
one_row = And (And (equal (codes "ID") (codes "1")) (equal (codes "AUTHOR") (codes "ann"))) (equal (codes "FILENAME") (codes "db/r1.json"))

abbrev lock : List ℕ
lock = codes "DATABASECHANGELOGLOCK"

abbrev lock_one : Test
lock_one = Compare Eq (side.Column (codes "ID")) (side.Literal (number (pos 1)))

-- the lock's row, with the lock free; the lock freed, taken, and marked
abbrev freed : List (List ℕ × Literal)
freed = (codes "LOCKED", literal.Bool false) ∷ (codes "LOCKGRANTED", literal.Null) ∷ (codes "LOCKEDBY", literal.Null) ∷ []

abbrev held : List (List ℕ × Literal)
held = (codes "LOCKED", literal.Bool true) ∷ (codes "LOCKGRANTED", text (codes "1970-01-01 00:00:01.000")) ∷ (codes "LOCKEDBY", text (codes "ci")) ∷ []

abbrev lock_row : Statement
lock_row = Insert lock (codes "ID" ∷ codes "LOCKED" ∷ codes "LOCKGRANTED" ∷ codes "LOCKEDBY" ∷ []) (number (pos 1) ∷ literal.Bool false ∷ literal.Null ∷ literal.Null ∷ [])

abbrev log_row : Statement
log_row = Insert (codes "DATABASECHANGELOG")
    (codes "ID" ∷ codes "AUTHOR" ∷ codes "FILENAME" ∷ codes "DATEEXECUTED" ∷ codes "ORDEREXECUTED" ∷ codes "EXECTYPE" ∷ codes "MD5SUM" ∷ codes "DESCRIPTION" ∷ codes "COMMENTS" ∷ codes "TAG" ∷ codes "LIQUIBASE" ∷ codes "CONTEXTS" ∷ codes "LABELS" ∷ codes "DEPLOYMENT_ID" ∷ [])
    (text (codes "1") ∷ text (codes "ann") ∷ text (codes "db/e.json") ∷ text (codes "1970-01-01 00:00:01.000") ∷ number (pos 1) ∷ text (codes "EXECUTED") ∷ text (codes "P1:d751713988987e9331980363e24189ce") ∷ text [] ∷ text [] ∷ literal.Null ∷ text (codes "profile-1") ∷ text [] ∷ text [] ∷ text (codes "0000001000") ∷ [])

pub rows_spelled :
    Spell Postgresql (
    (Insert (codes "t") (id ∷ up ∷ []) (number (neg_ℤ (pos 12)) ∷ literal.Null ∷ []), codes "INSERT INTO \"t\" (\"id\", \"up\") VALUES (-12, NULL)")
    ∷ (Insert (codes "t") [] (literal.Bool true ∷ []), codes "INSERT INTO \"t\" VALUES (TRUE)")
    ∷ (Insert (codes "team") (id ∷ codes "name" ∷ []) (text (codes "1") ∷ text (codes "red") ∷ []), codes "INSERT INTO \"team\" (\"id\", \"name\") VALUES ('1', 'red')")
    ∷ (Insert (codes "team") (id ∷ codes "name" ∷ []) (text (codes "2") ∷ literal.Null ∷ []), codes "INSERT INTO \"team\" (\"id\", \"name\") VALUES ('2', NULL)")
    ∷ (Update (codes "t") ((id, number (pos 1)) ∷ (up, literal.Null) ∷ []) None, codes "UPDATE \"t\" SET \"id\" = 1, \"up\" = NULL")
    ∷ (Update (codes "t") ((up, literal.Fixed (pos 150) 2) ∷ []) (where_id (pos 1)), codes "UPDATE \"t\" SET \"up\" = 1.50 WHERE \"id\" = 1")
    ∷ (Delete (codes "t") None, codes "DELETE FROM \"t\"")
    ∷ (Delete (codes "t") (Some (IsNull (side.Column up))), codes "DELETE FROM \"t\" WHERE \"up\" IS NULL")
    ∷ [])
    × Spell Mysql (
    (Insert (codes "t") (id ∷ up ∷ []) (number (neg_ℤ (pos 12)) ∷ literal.Null ∷ []), codes "INSERT INTO `t` (`id`, `up`) VALUES (-12, NULL)")
    ∷ (Insert (codes "t") [] (text (codes "a'b") ∷ []), codes "INSERT INTO `t` VALUES ('a''b')")
    ∷ (Update (codes "t") ((id, number (pos 1)) ∷ (up, literal.Null) ∷ []) (where_id (pos 1)), codes "UPDATE `t` SET `id` = 1, `up` = NULL WHERE `id` = 1")
    ∷ (Delete (codes "t") (where_id (pos 1)), codes "DELETE FROM `t` WHERE `id` = 1")
    ∷ [])
unfolding digits phrase_words name_text quoted_text string_text literal_text test_text statement_in words kind_of_word unquoted statement assignment delete insert stated_columns update where_test any_test comparison nullness operand operator primary product sum term enclosed separated literal_rule number_rule number_of many many_of led_by same_kind sees after expect ended name name_of lexemes length_at object
rows_spelled = ((refl, refl, refl), (refl, refl, refl))

-- a changeset's row, and its deletion; the lock's row, and the lock taken, marked and freed
pub tracking_spelled :
    Spell Postgresql ((
      log_row,
      codes "INSERT INTO \"DATABASECHANGELOG\" (\"ID\", \"AUTHOR\", \"FILENAME\", \"DATEEXECUTED\", \"ORDEREXECUTED\", \"EXECTYPE\", \"MD5SUM\", \"DESCRIPTION\", \"COMMENTS\", \"TAG\", \"LIQUIBASE\", \"CONTEXTS\", \"LABELS\", \"DEPLOYMENT_ID\") VALUES ('1', 'ann', 'db/e.json', '1970-01-01 00:00:01.000', 1, 'EXECUTED', 'P1:d751713988987e9331980363e24189ce', '', '', NULL, 'profile-1', '', '', '0000001000')",
    )
    ∷ (Delete (codes "DATABASECHANGELOG") (Some one_row), codes "DELETE FROM \"DATABASECHANGELOG\" WHERE ((\"ID\" = '1' AND \"AUTHOR\" = 'ann') AND \"FILENAME\" = 'db/r1.json')")
    ∷ (lock_row, codes "INSERT INTO \"DATABASECHANGELOGLOCK\" (\"ID\", \"LOCKED\", \"LOCKGRANTED\", \"LOCKEDBY\") VALUES (1, FALSE, NULL, NULL)")
    ∷ (Update lock held (Some lock_one), codes "UPDATE \"DATABASECHANGELOGLOCK\" SET \"LOCKED\" = TRUE, \"LOCKGRANTED\" = '1970-01-01 00:00:01.000', \"LOCKEDBY\" = 'ci' WHERE \"ID\" = 1")
    ∷ (Update lock ((codes "LOCKEDBY", text (codes "ci|a::1::b|1")) ∷ []) (Some lock_one), codes "UPDATE \"DATABASECHANGELOGLOCK\" SET \"LOCKEDBY\" = 'ci|a::1::b|1' WHERE \"ID\" = 1")
    ∷ (Update lock freed (Some lock_one), codes "UPDATE \"DATABASECHANGELOGLOCK\" SET \"LOCKED\" = FALSE, \"LOCKGRANTED\" = NULL, \"LOCKEDBY\" = NULL WHERE \"ID\" = 1")
    ∷ [])
    × Spell Mysql (
    (Delete (codes "DATABASECHANGELOG") (Some one_row), codes "DELETE FROM `DATABASECHANGELOG` WHERE ((`ID` = '1' AND `AUTHOR` = 'ann') AND `FILENAME` = 'db/r1.json')")
    ∷ (lock_row, codes "INSERT INTO `DATABASECHANGELOGLOCK` (`ID`, `LOCKED`, `LOCKGRANTED`, `LOCKEDBY`) VALUES (1, FALSE, NULL, NULL)")
    ∷ (Update lock freed (Some lock_one), codes "UPDATE `DATABASECHANGELOGLOCK` SET `LOCKED` = FALSE, `LOCKGRANTED` = NULL, `LOCKEDBY` = NULL WHERE `ID` = 1")
    ∷ [])
unfolding digits phrase_words name_text quoted_text string_text literal_text test_text Rattle.lq_model.specs.declared.test.Test.TheBlock.hidden-the_row-Test-0 denote.Hole.Carrier.hidden statement_in words kind_of_word unquoted statement assignment delete insert stated_columns update where_test any_test comparison nullness operand operator primary product sum term enclosed separated literal_rule number_rule many many_of led_by same_kind sees after expect ended name name_of lexemes length_at object
tracking_spelled = ((refl, refl, refl), (refl, refl, refl))

-- without columns all of them are meant; a string of mysql with a backslash
pub rows_read :
    Mean Mysql ((Insert (codes "t") [] (text (codes "a'b") ∷ []), codes "insert into t values ('a\\'b')") ∷ [])
    × Mean Postgresql ((Insert (codes "t") [] (text (codes "a;b--c'd") ∷ []), codes "INSERT INTO t VALUES ('a;b--c''d')") ∷ (Delete (codes "t") None, codes "DELETE  FROM t") ∷ [])
    × SpellNothing Postgresql (
    codes "insert into t" ∷ codes "insert t values (1)" ∷ codes "insert into t values 1" ∷ codes "insert into t values ()" ∷ codes "insert into t () values (1)" ∷ codes "insert into t values (id)" ∷ codes "insert into t values (1), (2)"
    ∷ codes "update t" ∷ codes "update t set id" ∷ codes "update t set id = up" ∷ codes "update t set id = 1," ∷ codes "update t set id = 1 where" ∷ codes "delete t" ∷ codes "delete from t where id" ∷ codes "delete * from t" ∷ [])
unfolding statement_in words kind_of_word unquoted statement assignment delete insert stated_columns update where_test any_test comparison nullness operand operator primary product sum term enclosed separated literal_rule number_rule many many_of led_by same_kind sees after expect ended name name_of lexemes length_at object
rows_read = (refl, refl, refl)
