-- Worked examples: blanks and comments between words, words in any case, and the end of a text.
use Rattle.std.specs.Prelude.{ℕ, List, [], ◌∷◌, codes, map, refl}
use Rattle.lq_base.specs.declared.dialect.Dialect.TheVariants.{Mysql, Postgresql}
use Rattle.lq_base.specs.Sql.{lexemes, length_at}
use Rattle.lq_model.proofs.Texts.Spell.{Mean, SpellNothing}
use Rattle.lq_model.specs.SqlText.{statement_in}
use Rattle.lq_model.specs.SqlWord.{words, kind_of_word, unquoted}
use Rattle.lq_model.specs.SqlStatement.{statement}
use Rattle.lq_model.specs.SqlAlter.{drop_object}
use Rattle.lq_model.specs.SqlParser.{same_kind, sees, after, expect, ended}
use Rattle.lq_model.specs.SqlPart.{name, name_of, object}
use Rattle.lq_model.specs.declared.statement.Statement.{Statement}
use Rattle.lq_model.specs.declared.statement.Statement.TheVariants.{DropTable}

-- texts that drop the table `t`
abbrev drop_t : List (List ℕ) → List (Statement × List ℕ)
drop_t = map (λ text. (DropTable (codes "t"), text))

abbrev in_both : List (List ℕ)
in_both =
    codes "DROP TABLE t" ∷ codes "drop table t" ∷ codes "dRoP tAbLe t" ∷ codes " \t\r\ndrop\ntable\t t " ∷ codes "drop/**/table/* a; 'b' */t" ∷ codes "drop table t;" ∷ codes "drop table t ; -- the end\n" ∷ codes "-- at first\ndrop table t" ∷ codes "drop -- then\n table t" ∷ []

abbrev in_neither : List (List ℕ)
in_neither =
    codes "" ∷ codes ";" ∷ codes " -- drop table t\n" ∷ codes "droptable t" ∷ codes "drop tablet" ∷ codes "drop table t;;" ∷ codes "drop table t; drop table t" ∷ codes "drop table t /* a" ∷ codes "drop table /* a /* b */ c */ */ t" ∷ codes "drop table t 'a" ∷ codes "SELEC" ∷ []

-- in postgresql a comment may stand in a comment, and `--` begins one without a blank; in mysql `#` begins one, and `/*!` none
pub trivia_read :
    Mean Postgresql (drop_t in_both)
    × Mean Mysql (drop_t in_both)
    × SpellNothing Postgresql in_neither
    × SpellNothing Mysql in_neither
    × Mean Postgresql (drop_t (codes "drop table t--a" ∷ codes "drop /* a /* b */ c */ table t" ∷ codes "drop table /*! a */ t" ∷ codes "drop table T" ∷ []))
    × SpellNothing Postgresql (codes "drop table t # a" ∷ codes "drop /* a /* b */ table t" ∷ [])
    × Mean Mysql (drop_t (codes "drop table t # a" ∷ codes "drop#a\n table t" ∷ codes "drop /* a /* b */ table t" ∷ []))
    × SpellNothing Mysql (codes "drop table t--a" ∷ codes "drop /* a /* b */ c */ table t" ∷ codes "drop table /*! a */ t" ∷ codes "drop table /*! t */" ∷ [])
unfolding statement_in words kind_of_word unquoted statement drop_object same_kind sees after expect ended name name_of lexemes length_at object
trivia_read = (refl, refl, refl, refl, refl, refl, refl, refl)
