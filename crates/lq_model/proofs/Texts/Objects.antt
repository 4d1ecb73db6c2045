-- Worked examples: the texts of the statements on tables, indexes, views and sequences that are made and dropped by name.
use Rattle.std.specs.Prelude.{◌-◌, ◌^◌, None, Some, [], ◌∷◌, codes, false, neg_ℤ, pos, refl, true}
use Rattle.std.specs.Fmt.{digits}
use Rattle.lq_base.specs.declared.dialect.Dialect.TheVariants.{Mysql, Postgresql}
use Rattle.lq_base.specs.Number.{number_of}
use Rattle.lq_base.specs.Sql.{lexemes, length_at}
use Rattle.lq_model.proofs.ExampleWorld.{id, index_on, up, where_id}
use Rattle.lq_model.proofs.Texts.Spell.{Spell, SpellNothing}
use Rattle.lq_model.specs.TestText.{words as phrase_words, name_text, quoted_text, literal_text, query_text, test_text}
use Rattle.lq_model.specs.SqlText.{statement_in}
use Rattle.lq_model.specs.SqlWord.{words, kind_of_word, unquoted}
use Rattle.lq_model.specs.SqlStatement.{statement, create, create_index, create_sequence, create_view, step, whole}
use Rattle.lq_model.specs.SqlAlter.{alter, alter_sequence, alter_view, new_name, drop_index, drop_object}
use Rattle.lq_model.specs.SqlParser.{same_kind, sees, after, expect, ended, enclosed, separated, many, many_of, led_by}
use Rattle.lq_model.specs.SqlPart.{name, name_of, literal as literal_rule, number as number_rule, object}
use Rattle.lq_model.specs.SqlQuery.{columns, count, query, selected, sees_count}
use Rattle.lq_model.specs.SqlTest.{any_test, comparison, operand, operator, primary, product, sum, term, where_test}
use Rattle.lq_model.specs.declared.query.Query.{Query}
use Rattle.lq_model.specs.declared.query.Wanted.TheVariants as wanted
use Rattle.lq_model.specs.declared.statement.Statement.TheVariants.{CreateIndex, CreateSequence, CreateView, DropIndex, DropSequence, DropTable, DropView, RenameSequence, RenameView}

abbrev of_team : Query
of_team = record { wanted = wanted.Columns (id ∷ []); table = codes "team"; test = None }

pub objects_spelled :
    Spell Postgresql (
    (DropTable (codes "team"), codes "DROP TABLE \"team\"")
    ∷ (CreateIndex (codes "player") (index_on (codes "ix_player_team") (codes "team_id" ∷ []) false), codes "CREATE INDEX \"ix_player_team\" ON \"player\" (\"team_id\")")
    ∷ (CreateIndex (codes "t") (index_on (codes "i") (id ∷ up ∷ []) true), codes "CREATE UNIQUE INDEX \"i\" ON \"t\" (\"id\", \"up\")")
    ∷ (DropIndex (codes "ix_player_team") None, codes "DROP INDEX \"ix_player_team\"")
    ∷ (CreateView (codes "v") of_team false, codes "CREATE VIEW \"v\" AS SELECT \"id\" FROM \"team\"")
    ∷ (CreateView (codes "v") (record of_team { wanted = wanted.All; test = where_id (pos 1) }) true, codes "CREATE OR REPLACE VIEW \"v\" AS SELECT * FROM \"team\" WHERE \"id\" = 1")
    ∷ (DropView (codes "v"), codes "DROP VIEW \"v\"")
    ∷ (RenameView (codes "v") (codes "w"), codes "ALTER VIEW \"v\" RENAME TO \"w\"")
    ∷ (CreateSequence (codes "s") (pos 1) (pos 1), codes "CREATE SEQUENCE \"s\" START WITH 1 INCREMENT BY 1")
    ∷ (CreateSequence (codes "s") (neg_ℤ (pos 5)) (pos (2 ^ 127 - 1)), codes "CREATE SEQUENCE \"s\" START WITH -5 INCREMENT BY 170141183460469231731687303715884105727")
    ∷ (DropSequence (codes "s"), codes "DROP SEQUENCE \"s\"")
    ∷ (RenameSequence (codes "s") (codes "r"), codes "ALTER SEQUENCE \"s\" RENAME TO \"r\"")
    ∷ [])
    × Spell Mysql (
    (DropTable (codes "team"), codes "DROP TABLE `team`")
    ∷ (CreateIndex (codes "t") (index_on (codes "i") (id ∷ []) false), codes "CREATE INDEX `i` ON `t` (`id`)")
    ∷ (CreateIndex (codes "t") (index_on (codes "i") (id ∷ up ∷ []) true), codes "CREATE UNIQUE INDEX `i` ON `t` (`id`, `up`)")
    ∷ (DropIndex (codes "i") (Some (codes "t")), codes "DROP INDEX `i` ON `t`")
    ∷ (CreateView (codes "v") of_team false, codes "CREATE VIEW `v` AS SELECT `id` FROM `team`")
    ∷ (CreateView (codes "v") (record of_team { wanted = wanted.Count }) true, codes "CREATE OR REPLACE VIEW `v` AS SELECT COUNT(*) FROM `team`")
    ∷ (DropView (codes "v"), codes "DROP VIEW `v`")
    ∷ [])
unfolding digits phrase_words name_text quoted_text literal_text query_text test_text statement_in words kind_of_word unquoted statement alter alter_sequence alter_view new_name create create_index create_sequence create_view step whole drop_index drop_object query selected sees_count columns count where_test any_test comparison operand operator primary product sum term enclosed separated literal_rule number_rule number_of many many_of led_by same_kind sees after expect ended name name_of lexemes length_at object
objects_spelled = ((refl, refl, refl), (refl, refl, refl))

-- a dialect has not the other's statements; a sequence has a start and a step that is not 0
pub objects_refused :
    SpellNothing Postgresql (
    codes "create view v as select id" ∷ codes "create replace view v as select id from t" ∷ codes "create index i on t" ∷ codes "create index i on t ()" ∷ codes "create unique view v as select id from t" ∷ codes "create sequence s"
    ∷ codes "create sequence s start with 1" ∷ codes "create sequence s increment by 1 start with 1" ∷ codes "create sequence s start with 1.0 increment by 1" ∷ codes "create sequence s start with 1 increment by -0"
    ∷ codes "alter view v rename w" ∷ codes "drop sequence" ∷ codes "drop index i on t" ∷ [])
    × SpellNothing Mysql (
    codes "alter view v rename to w" ∷ codes "create sequence s start with 1 increment by 1" ∷ codes "drop sequence s" ∷ codes "alter sequence s rename to r" ∷ codes "drop index i" ∷ [])
unfolding statement_in words kind_of_word unquoted statement alter alter_sequence alter_view new_name create create_index create_sequence create_view step whole drop_index drop_object query selected sees_count columns count enclosed separated literal_rule number_rule number_of many many_of led_by same_kind sees after expect ended name name_of lexemes length_at object
objects_refused = (refl, refl)
