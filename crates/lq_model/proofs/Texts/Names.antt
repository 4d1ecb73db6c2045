-- Worked examples: which words and quoted texts are names, and how names are written.
use Rattle.std.specs.Prelude.{List, None, [], codes, map, refl, replicate, ℕ, ◌++◌, ◌∷◌}
use Rattle.std.specs.Char.{to_ascii_lowercase}
use Rattle.lq_base.specs.declared.dialect.Dialect.TheVariants.{Mysql, Postgresql}
use Rattle.lq_base.specs.Sql.{lexemes, length_at}
use Rattle.lq_model.proofs.Texts.Spell.{e_acute, Mean, Spell, SpellNothing}
use Rattle.lq_model.specs.TestText.{words as phrase_words, name_text, quoted_text}
use Rattle.lq_model.specs.SqlText.{statement_in}
use Rattle.lq_model.specs.SqlWord.{words, kind_of_word, unquoted}
use Rattle.lq_model.specs.SqlStatement.{statement}
use Rattle.lq_model.specs.SqlAlter.{drop_index, drop_object, alter, alter_table, new_name, rename_part, rename_table_to}
use Rattle.lq_model.specs.SqlParser.{same_kind, sees, after, expect, ended}
use Rattle.lq_model.specs.SqlPart.{name, name_of, object}
use Rattle.lq_model.specs.declared.statement.Statement.TheVariants.{DropIndex, DropTable, RenameTable}

-- a quote in a name stands twice; capitals, blanks and reserved words may stand in quotes; 63 bytes at most
pub quoted_names :
    Spell Postgresql (
    (DropTable (codes "t"), codes "DROP TABLE \"t\"")
    ∷ (DropTable (codes "a\"b"), codes "DROP TABLE \"a\"\"b\"")
    ∷ (DropTable (codes "a`b"), codes "DROP TABLE \"a`b\"")
    ∷ (DropTable (codes "Two words"), codes "DROP TABLE \"Two words\"")
    ∷ (DropTable (codes "TABLE"), codes "DROP TABLE \"TABLE\"")
    ∷ (DropTable e_acute, codes "DROP TABLE \"" ++ e_acute ++ codes "\"")
    ∷ (DropTable (replicate 63 110), codes "DROP TABLE \"" ++ replicate 63 110 ++ codes "\"")
    ∷ [])
    × Spell Mysql (
    (DropTable (codes "t"), codes "DROP TABLE `t`")
    ∷ (DropTable (codes "a`b"), codes "DROP TABLE `a``b`")
    ∷ (DropTable (codes "a\"b\\"), codes "DROP TABLE `a\"b\\`")
    ∷ (DropTable (codes "Two words"), codes "DROP TABLE `Two words`")
    ∷ (DropTable (codes "TABLE"), codes "DROP TABLE `TABLE`")
    ∷ [])
    × SpellNothing Postgresql (
    codes "DROP TABLE \"\"" ∷ codes "DROP TABLE \"a" ∷ codes "DROP TABLE 't'" ∷ codes "DROP TABLE `t`" ∷ codes "DROP TABLE \"a\nb\""
    ∷ (codes "DROP TABLE \"" ++ replicate 64 110 ++ codes "\"") ∷ [])
    × SpellNothing Mysql (codes "DROP TABLE ``" ∷ codes "DROP TABLE \"t\"" ∷ codes "DROP TABLE 't'" ∷ [])
unfolding phrase_words name_text quoted_text statement_in words kind_of_word unquoted statement drop_object same_kind sees after expect ended name name_of lexemes length_at object
quoted_names = ((refl, refl, refl), (refl, refl, refl), refl, refl)

-- letters, digits and `_` of ASCII, not beginning with a digit, in lower case in postgresql
pub unquoted_names :
    Mean Postgresql ((DropTable (codes "t_1"), codes "drop table T_1") ∷ (DropTable (codes "_x"), codes "drop table _X") ∷ [])
    × Mean Mysql ((DropTable (codes "T_1"), codes "drop table T_1") ∷ (DropTable (codes "_X"), codes "drop table _X") ∷ [])
    × SpellNothing Postgresql (codes "drop table 1t" ∷ codes "drop table t$" ∷ (codes "drop table " ++ e_acute) ∷ codes "drop table a b" ∷ [])
    × SpellNothing Mysql (codes "drop table 1t" ∷ codes "drop table t$" ∷ (codes "drop table " ++ e_acute) ∷ codes "drop table a b" ∷ codes "drop table a.b" ∷ [])
unfolding statement_in words kind_of_word unquoted statement drop_object same_kind sees after expect ended name name_of lexemes length_at object
unquoted_names = (refl, refl, refl, refl)

abbrev reserved : List (List ℕ)
reserved =
    codes "ADD" ∷ codes "ALTER" ∷ codes "AND" ∷ codes "AS" ∷ codes "COLUMN" ∷ codes "CONSTRAINT" ∷ codes "CREATE" ∷ codes "DEFAULT"
    ∷ codes "DELETE" ∷ codes "DROP" ∷ codes "FALSE" ∷ codes "FOREIGN" ∷ codes "FROM" ∷ codes "INSERT" ∷ codes "INTO" ∷ codes "IS"
    ∷ codes "NOT" ∷ codes "NULL" ∷ codes "ON" ∷ codes "OR" ∷ codes "PRIMARY" ∷ codes "REFERENCES" ∷ codes "SELECT" ∷ codes "SET"
    ∷ codes "TABLE" ∷ codes "TO" ∷ codes "TRUE" ∷ codes "UNIQUE" ∷ codes "UPDATE" ∷ codes "VALUES" ∷ codes "WHERE" ∷ []

-- the other words of statements and of kinds
abbrev free : List (List ℕ)
free =
    codes "ACTION" ∷ codes "AUTO_INCREMENT" ∷ codes "BY" ∷ codes "CASCADE" ∷ codes "COUNT" ∷ codes "GENERATED" ∷ codes "IDENTITY" ∷ codes "INCREMENT"
    ∷ codes "INDEX" ∷ codes "KEY" ∷ codes "MODIFY" ∷ codes "NO" ∷ codes "RENAME" ∷ codes "REPLACE" ∷ codes "RESTRICT" ∷ codes "SEQUENCE" ∷ codes "START"
    ∷ codes "VIEW" ∷ codes "WITH" ∷ codes "INT" ∷ codes "INTEGER" ∷ codes "BIGINT" ∷ codes "BOOLEAN" ∷ codes "BOOL" ∷ codes "VARCHAR" ∷ codes "TEXT"
    ∷ codes "CLOB" ∷ codes "TIMESTAMP" ∷ codes "DATETIME" ∷ codes "DECIMAL" ∷ codes "NUMERIC" ∷ []

abbrev lower : List (List ℕ) → List (List ℕ)
lower = map (map to_ascii_lowercase)

abbrev dropped : List (List ℕ) → List (List ℕ)
dropped = map (λ word. codes "DROP TABLE " ++ word)

-- a reserved word is no name, in either case; every other word of the statements is one
pub reserved_words :
    SpellNothing Postgresql (dropped reserved)
    × SpellNothing Postgresql (dropped (lower reserved))
    × SpellNothing Mysql (dropped reserved)
    × SpellNothing Mysql (dropped (lower reserved))
    × Mean Postgresql (map (λ word. (DropTable (map to_ascii_lowercase word), codes "DROP TABLE " ++ word)) free)
    × Mean Mysql (map (λ word. (DropTable word, codes "DROP TABLE " ++ word)) free)
    × Mean Mysql (map (λ word. (DropTable word, codes "DROP TABLE " ++ word)) (lower free))
unfolding statement_in words kind_of_word unquoted statement drop_object same_kind sees after expect ended name name_of lexemes length_at object
reserved_words = (refl, refl, refl, refl, refl, refl, refl)

-- the table t, and others, of the schema app
abbrev app : List ℕ → List ℕ
app text = codes "app" ++ 31 ∷ text

-- a schema that is not `public` stands before a dot, in postgresql alone; a renaming does not state it
pub schemas :
    Spell Postgresql ((DropTable (app (codes "t")), codes "DROP TABLE \"app\".\"t\"") ∷ (RenameTable (app (codes "t")) (app (codes "u")), codes "ALTER TABLE \"app\".\"t\" RENAME TO \"u\"") ∷ (DropIndex (app (codes "ix")) None, codes "DROP INDEX \"app\".\"ix\"") ∷ [])
    × Mean Postgresql ((DropTable (app (codes "t")), codes "drop table App . T") ∷ (DropTable (codes "t"), codes "drop table public.t") ∷ (DropTable (codes "t"), codes "DROP TABLE \"public\".\"t\"") ∷ [])
    × SpellNothing Postgresql (codes "drop table a.b.c" ∷ codes "drop table a." ∷ codes "drop table .a" ∷ codes "drop table a.1" ∷ codes "alter table t rename to s.u" ∷ [])
    × SpellNothing Mysql (codes "drop table `a`.`b`" ∷ codes "drop table public.t" ∷ [])
unfolding phrase_words name_text quoted_text statement_in words kind_of_word unquoted statement drop_object drop_index alter alter_table rename_part rename_table_to new_name same_kind sees after expect ended name name_of lexemes length_at object
schemas = ((refl, refl, refl), refl, refl, refl)
