-- Worked examples: the kinds of columns, as the dialects write them and by the words that name them.
use Rattle.std.specs.Prelude.{◌++◌, ℕ, None, List, [], ◌∷◌, codes, map, refl}
use Rattle.std.specs.Fmt.{digits}
use Rattle.lq_base.specs.declared.dialect.Dialect.TheVariants.{Mysql, Postgresql}
use Rattle.lq_base.specs.declared.kind.Kind.{Kind}
use Rattle.lq_base.specs.declared.kind.Kind.TheVariants.{BigInt, Boolean, Decimal, Int, Moment, Text, Varchar}
use Rattle.lq_base.specs.Kind.{plain_kind, sized_kind, decimal_kind}
use Rattle.lq_base.specs.Sql.{lexemes, length_at}
use Rattle.lq_model.proofs.ExampleWorld.{def}
use Rattle.lq_model.proofs.Texts.Spell.{Mean, Spell, SpellNothing}
use Rattle.lq_model.specs.TestText.{words as phrase_words, name_text, quoted_text}
use Rattle.lq_model.specs.StatementText.{column_text}
use Rattle.lq_model.specs.SqlText.{statement_in}
use Rattle.lq_model.specs.SqlWord.{words, kind_of_word, unquoted}
use Rattle.lq_model.specs.SqlStatement.{statement}
use Rattle.lq_model.specs.SqlAlter.{alter, alter_table, add, add_column}
use Rattle.lq_model.specs.SqlTable.{added_column, stated_column, column_clause}
use Rattle.lq_model.specs.SqlParser.{same_kind, sees, after, expect, ended, many, many_of, led_by}
use Rattle.lq_model.specs.SqlPart.{name, name_of, column_kind, kind_with, sized_with, decimal_with, kind_number, object}
use Rattle.lq_model.specs.declared.statement.Statement.{Statement}
use Rattle.lq_model.specs.declared.statement.Statement.TheVariants.{AddColumn}

-- a column of this kind is added
abbrev of_kind : Kind → Statement
of_kind k = AddColumn (codes "t") (def (codes "c") k None)

abbrev pg_rows : List (Kind × List ℕ) → List (Statement × List ℕ)
pg_rows = map (λ row. (of_kind row.0, codes "ALTER TABLE \"t\" ADD COLUMN \"c\" " ++ row.1))

abbrev my_rows : List (Kind × List ℕ) → List (Statement × List ℕ)
my_rows = map (λ row. (of_kind row.0, codes "ALTER TABLE `t` ADD COLUMN `c` " ++ row.1))

pub kinds_spelled :
    Spell Postgresql (pg_rows (
    (Int, codes "INTEGER") ∷ (BigInt, codes "BIGINT") ∷ (Boolean, codes "BOOLEAN") ∷ (Varchar 1, codes "VARCHAR(1)") ∷ (Varchar 10000, codes "VARCHAR(10000)")
    ∷ (Text, codes "TEXT") ∷ (Moment, codes "TIMESTAMP") ∷ (Decimal 1 0, codes "DECIMAL(1, 0)") ∷ (Decimal 38 38, codes "DECIMAL(38, 38)") ∷ []))
    × Spell Mysql (my_rows (
    (Int, codes "INT") ∷ (BigInt, codes "BIGINT") ∷ (Boolean, codes "BOOLEAN") ∷ (Varchar 1, codes "VARCHAR(1)") ∷ (Varchar 10000, codes "VARCHAR(10000)")
    ∷ (Text, codes "TEXT") ∷ (Moment, codes "DATETIME(3)") ∷ (Decimal 1 0, codes "DECIMAL(1, 0)") ∷ (Decimal 38 38, codes "DECIMAL(38, 38)") ∷ []))
unfolding digits phrase_words name_text quoted_text column_text statement_in words kind_of_word unquoted statement alter alter_table add add_column added_column stated_column column_clause column_kind kind_with sized_with decimal_with kind_number plain_kind sized_kind decimal_kind many many_of led_by same_kind sees after expect ended name name_of lexemes length_at object
kinds_spelled = ((refl, refl, refl), (refl, refl, refl))

-- the words of both dialects, in any case
abbrev by_words : List (Kind × List ℕ)
by_words =
    (Int, codes "int") ∷ (Int, codes "Integer") ∷ (BigInt, codes "bigINT") ∷ (Boolean, codes "boolean") ∷ (Boolean, codes "bool") ∷ (Varchar 40, codes "varchar(40)")
    ∷ (Varchar 40, codes "varchar ( 40 )") ∷ (Text, codes "text") ∷ (Text, codes "Clob") ∷ (Moment, codes "timestamp") ∷ (Moment, codes "DateTime") ∷ (Moment, codes "datetime(3)")
    ∷ (Decimal 5 2, codes "decimal(5,2)") ∷ (Decimal 5 5, codes "NUMERIC( 5 , 5 )") ∷ []

-- no such kind, a number that is too great, or too small, or none
abbrev none_of_them : List (List ℕ)
none_of_them =
    codes "float" ∷ codes "char(3)" ∷ codes "varchar" ∷ codes "varchar(0)" ∷ codes "varchar(10001)" ∷ codes "varchar(-1)" ∷ codes "varchar(1.0)" ∷ codes "varchar(3" ∷ codes "int(3)" ∷ codes "text(3)"
    ∷ codes "datetime(2)" ∷ codes "timestamp(3)" ∷ codes "decimal" ∷ codes "decimal(5)" ∷ codes "decimal(0, 0)" ∷ codes "decimal(39, 0)" ∷ codes "decimal(5, 6)" ∷ codes "\"int\"" ∷ []

pub kinds_named :
    Mean Postgresql (map (λ row. (of_kind row.0, codes "alter table t add c " ++ row.1)) by_words)
    × Mean Mysql (map (λ row. (of_kind row.0, codes "alter table t add c " ++ row.1)) by_words)
    × SpellNothing Postgresql (map (λ kind. codes "alter table t add c " ++ kind) none_of_them)
    × SpellNothing Mysql (map (λ kind. codes "alter table t add c " ++ kind) none_of_them)
unfolding statement_in words kind_of_word unquoted statement alter alter_table add add_column added_column stated_column column_clause column_kind kind_with sized_with decimal_with kind_number plain_kind sized_kind decimal_kind many many_of led_by same_kind sees after expect ended name name_of lexemes length_at object
kinds_named = (refl, refl, refl, refl)
