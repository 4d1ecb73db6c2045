-- Worked examples: literals, as they are written and as they may be spelled.
use Rattle.std.specs.Prelude.{◌++◌, ◌-◌, ◌^◌, ℕ, List, [], ◌∷◌, codes, false, map, neg_ℤ, pos, refl, replicate, true}
use Rattle.std.specs.Fmt.{digits}
use Rattle.lq_base.specs.declared.dialect.Dialect.TheVariants.{Mysql, Postgresql}
use Rattle.lq_base.specs.declared.literal.Literal.{Literal}
use Rattle.lq_base.specs.declared.literal.Literal.TheVariants.{Bool, Fixed, Int, Null, Text}
use Rattle.lq_base.specs.Number.{number_of}
use Rattle.lq_base.specs.Sql.{lexemes, length_at}
use Rattle.lq_model.proofs.Texts.Spell.{e_acute, Mean, Spell, SpellNothing}
use Rattle.lq_model.specs.TestText.{words as phrase_words, name_text, quoted_text, string_text, literal_text}
use Rattle.lq_model.specs.SqlText.{statement_in}
use Rattle.lq_model.specs.SqlWord.{words, kind_of_word, unquoted}
use Rattle.lq_model.specs.SqlStatement.{statement}
use Rattle.lq_model.specs.SqlAlter.{alter, alter_table, alter_column, set_part}
use Rattle.lq_model.specs.SqlParser.{same_kind, sees, after, expect, ended}
use Rattle.lq_model.specs.SqlPart.{name, name_of, literal, number, object}
use Rattle.lq_model.specs.declared.statement.Statement.{Statement}
use Rattle.lq_model.specs.declared.statement.Statement.TheVariants.{SetDefault}

-- a column gets this default
abbrev by_default : Literal → Statement
by_default l = SetDefault (codes "t") (codes "c") l

abbrev pg_rows : List (Literal × List ℕ) → List (Statement × List ℕ)
pg_rows = map (λ row. (by_default row.0, codes "ALTER TABLE \"t\" ALTER COLUMN \"c\" SET DEFAULT " ++ row.1))

abbrev my_rows : List (Literal × List ℕ) → List (Statement × List ℕ)
my_rows = map (λ row. (by_default row.0, codes "ALTER TABLE `t` ALTER COLUMN `c` SET DEFAULT " ++ row.1))

abbrev spelled : List (List ℕ) → List (List ℕ)
spelled = map (λ text. codes "alter table t alter column c set default " ++ text)

-- those that both dialects write alike
abbrev alike : List (Literal × List ℕ)
alike =
    (Null, codes "NULL") ∷ (Bool true, codes "TRUE") ∷ (Bool false, codes "FALSE") ∷ (Int (pos 0), codes "0") ∷ (Int (neg_ℤ (pos 1)), codes "-1")
    ∷ (Int (pos (2 ^ 127 - 1)), codes "170141183460469231731687303715884105727") ∷ (Int (neg_ℤ (pos (2 ^ 127))), codes "-170141183460469231731687303715884105728")
    ∷ (Fixed (neg_ℤ (pos 750)) 2, codes "-7.50") ∷ (Fixed (pos 5) 3, codes "0.005") ∷ (Text [], codes "''") ∷ (Text (codes "it's"), codes "'it''s'") ∷ (Text (codes "a\"b; --" ++ e_acute), codes "'a\"b; --" ++ e_acute ++ codes "'") ∷ []

pub literals_spelled :
    Spell Postgresql (pg_rows alike)
    × Spell Mysql (my_rows alike)
    × Spell Postgresql (pg_rows ((Text (codes "a\\b"), codes "'a\\b'") ∷ []))
    × Spell Mysql (my_rows ((Text (codes "a\\b"), codes "'a\\\\b'") ∷ []))
unfolding digits phrase_words name_text quoted_text string_text literal_text statement_in words kind_of_word unquoted statement alter alter_table alter_column set_part literal number number_of same_kind sees after expect ended name name_of lexemes length_at object
literals_spelled = ((refl, refl, refl), (refl, refl, refl), (refl, refl, refl), (refl, refl, refl))

-- other spellings; a decimal number has 38 digits at most, leading zeros among them
abbrev otherwise : List (Literal × List ℕ)
otherwise =
    (Null, codes "null") ∷ (Bool true, codes "True") ∷ (Int (pos 7), codes "007") ∷ (Int (pos 0), codes "-0") ∷ (Fixed (pos 150) 2, codes "01.50")
    ∷ (Fixed (pos 1) 37, codes "0." ++ replicate 36 48 ++ codes "1") ∷ []

abbrev no_literals : List (List ℕ)
no_literals =
    codes "+1" ∷ codes "- 1" ∷ codes "1." ∷ codes ".5" ∷ codes "1e5" ∷ codes "1.2.3" ∷ codes "1a" ∷ codes "x" ∷ codes "'a" ∷ codes "'a' 'b'" ∷ codes "a'b'" ∷ codes "(1)"
    ∷ codes "170141183460469231731687303715884105728" ∷ codes "-170141183460469231731687303715884105729" ∷ (codes "0." ++ replicate 38 49) ∷ []

pub literals_read :
    Mean Postgresql (map (λ row. (by_default row.0, codes "alter table t alter column c set default " ++ row.1)) otherwise)
    × Mean Mysql (map (λ row. (by_default row.0, codes "alter table t alter column c set default " ++ row.1)) otherwise)
    × SpellNothing Postgresql (spelled no_literals)
    × SpellNothing Mysql (spelled no_literals)
    × SpellNothing Postgresql (spelled (codes "\"a\"" ∷ codes "'it\\'s'" ∷ codes "E'a'" ∷ codes "$$a$$" ∷ []))
unfolding statement_in words kind_of_word unquoted statement alter alter_table alter_column set_part literal number number_of same_kind sees after expect ended name name_of lexemes length_at object
literals_read = (refl, refl, refl, refl, refl)

abbrev mysql_texts : List (List ℕ × List ℕ) → List (Statement × List ℕ)
mysql_texts = map (λ row. (by_default (Text row.0), codes "alter table t alter column c set default " ++ row.1))

-- mysql's strings: in either quote, with backslashes for characters; before `%` and `_` the backslash stays
pub mysql_strings :
    Mean Mysql (mysql_texts (
    (codes "a'b", codes "\"a'b\"") ∷ (codes "a\"b", codes "\"a\"\"b\"") ∷ (codes "a''b", codes "\"a''b\"") ∷ (codes "it's", codes "'it\\'s'") ∷ (codes "a\"b", codes "'a\\\"b'")
    ∷ (0 ∷ [], codes "'\\0'") ∷ (10 ∷ [], codes "'\\n'") ∷ (9 ∷ [], codes "'\\t'") ∷ (13 ∷ [], codes "'\\r'") ∷ (8 ∷ [], codes "'\\b'") ∷ (26 ∷ [], codes "'\\Z'")
    ∷ (codes "\\%", codes "'\\%'") ∷ (codes "\\_", codes "'\\_'") ∷ (codes "\\", codes "'\\\\'") ∷ (codes "N", codes "'\\N'") ∷ (codes "x" ++ e_acute, codes "'\\x\\" ++ e_acute ++ codes "'") ∷ []))
    × SpellNothing Mysql (spelled (codes "'a\\'" ∷ codes "\"a'" ∷ codes "`a`" ∷ []))
unfolding statement_in words kind_of_word unquoted statement alter alter_table alter_column set_part literal same_kind sees after expect ended name name_of lexemes length_at object
mysql_strings = (refl, refl)
