-- Worked examples: the texts of queries.
use Rattle.std.specs.Prelude.{◌≡◌, None, Some, Option, [], ◌∷◌, codes, map, pos, refl, replicate}
use Rattle.std.specs.Fmt.{digits}
use Rattle.lq_base.specs.declared.dialect.Dialect.TheVariants.{Mysql, Postgresql}
use Rattle.lq_base.specs.Sql.{lexemes, length_at}
use Rattle.lq_model.proofs.ExampleWorld.{id, up, where_id}
use Rattle.lq_model.proofs.Texts.Spell.{SpellQueries}
use Rattle.lq_model.specs.TestText.{words as phrase_words, name_text, quoted_text, literal_text, query_text, test_text}
use Rattle.lq_model.specs.SqlText.{query_in}
use Rattle.lq_model.specs.SqlWord.{words, kind_of_word, unquoted}
use Rattle.lq_model.specs.SqlParser.{same_kind, sees, after, expect, ended, separated, many, many_of, led_by}
use Rattle.lq_model.specs.SqlPart.{name, name_of, literal as literal_rule, number as number_rule, object}
use Rattle.lq_model.specs.SqlQuery.{columns, count, query, selected, sees_count}
use Rattle.lq_model.specs.SqlTest.{any_test, comparison, operand, operator, primary, product, sum, term, where_test}
use Rattle.lq_model.specs.declared.query.Query.{Query}
use Rattle.lq_model.specs.declared.query.Wanted.{Wanted}
use Rattle.lq_model.specs.declared.query.Wanted.TheVariants as wanted
use Rattle.lq_model.specs.declared.test.Test.{Test}

abbrev of : Wanted → Option Test → Query
of it test = record { wanted = it; table = codes "t"; test = test }

pub queries_spelled :
    SpellQueries Postgresql (
    (of wanted.All None, codes "SELECT * FROM \"t\"")
    ∷ (of wanted.Count None, codes "SELECT COUNT(*) FROM \"t\"")
    ∷ (of (wanted.Columns (id ∷ up ∷ [])) None, codes "SELECT \"id\", \"up\" FROM \"t\"")
    ∷ (of wanted.All (where_id (pos 1)), codes "SELECT * FROM \"t\" WHERE \"id\" = 1")
    ∷ (of wanted.Count (where_id (pos 1)), codes "SELECT COUNT(*) FROM \"t\" WHERE \"id\" = 1")
    ∷ (of (wanted.Columns (id ∷ [])) (where_id (pos 1)), codes "SELECT \"id\" FROM \"t\" WHERE \"id\" = 1")
    ∷ (of (wanted.Columns (codes "count" ∷ [])) None, codes "SELECT \"count\" FROM \"t\"")
    ∷ [])
    × SpellQueries Mysql (
    (of wanted.All None, codes "SELECT * FROM `t`")
    ∷ (of wanted.Count (where_id (pos 1)), codes "SELECT COUNT(*) FROM `t` WHERE `id` = 1")
    ∷ (of (wanted.Columns (id ∷ up ∷ [])) None, codes "SELECT `id`, `up` FROM `t`")
    ∷ [])
unfolding digits phrase_words name_text quoted_text literal_text query_text test_text query_in words kind_of_word unquoted query selected sees_count columns count where_test any_test comparison operand operator primary product sum term separated literal_rule number_rule many many_of led_by same_kind sees after expect ended name name_of lexemes length_at object
queries_spelled = ((refl, refl, refl), (refl, refl, refl))

-- COUNT is the count exactly where `(` follows it
pub queries_read :
    (map (query_in Postgresql) (codes "select count(*) from T;" ∷ codes "select Count ( * ) from t" ∷ codes "select COUNT from t" ∷ codes "select count, id from t" ∷ codes "select id, count from t" ∷ [])
    ≡ map Some (of wanted.Count None ∷ of wanted.Count None ∷ of (wanted.Columns (codes "count" ∷ [])) None ∷ of (wanted.Columns (codes "count" ∷ id ∷ [])) None ∷ of (wanted.Columns (id ∷ codes "count" ∷ [])) None ∷ []))
    × (map (query_in Mysql) (codes "select COUNT from t" ∷ []) ≡ map Some (of (wanted.Columns (codes "COUNT" ∷ [])) None ∷ []))
    × (map (query_in Postgresql) (
    codes "select" ∷ codes "select * from" ∷ codes "select from t" ∷ codes "select *, id from t" ∷ codes "select id up from t" ∷ codes "select id, from t" ∷ codes "select count(id) from t" ∷ codes "select count() from t" ∷ codes "select \"count\"(*) from t"
    ∷ codes "select count(*), id from t" ∷ codes "select 1 from t" ∷ codes "select * from t u" ∷ codes "select * from t, u" ∷ codes "select * from t where" ∷ codes "select * from t where id = 1 order" ∷ codes "drop table t" ∷ codes "SELEC" ∷ [])
    ≡ replicate 17 None)
unfolding query_in words kind_of_word unquoted query selected sees_count columns count where_test any_test comparison operand operator primary product sum term separated literal_rule number_rule many many_of led_by same_kind sees after expect ended name name_of lexemes length_at object
queries_read = (refl, refl, refl)
