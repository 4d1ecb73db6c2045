-- Worked examples: the texts of the statements that add and drop constraints.
use Rattle.std.specs.Prelude.{◌≡◌, ◌++◌, None, Some, [], ◌∷◌, codes, false, refl, replicate, true}
use Rattle.lq_base.specs.declared.dialect.Dialect.TheVariants.{Mysql, Postgresql}
use Rattle.lq_base.specs.declared.kind.Kind.TheVariants as kind
use Rattle.lq_base.specs.Kind.{plain_kind}
use Rattle.lq_base.specs.Sql.{lexemes, length_at}
use Rattle.lq_model.proofs.ExampleWorld.{def, foreign_to, id, key_on, unique_on, up}
use Rattle.lq_model.proofs.PlainText.{plain_cut, plain_front}
use Rattle.lq_model.proofs.Texts.Spell.{Mean, Spell, SpellNothing}
use Rattle.lq_model.specs.Sound.{key_name, unique_name, foreign_name}
use Rattle.lq_model.specs.TestText.{words as phrase_words, name_text, quoted_text}
use Rattle.lq_model.specs.StatementText.{key_text, unique_text, foreign_text}
use Rattle.lq_model.specs.SqlText.{statement_in}
use Rattle.lq_model.specs.SqlWord.{words, kind_of_word, unquoted}
use Rattle.lq_model.specs.SqlStatement.{statement, create}
use Rattle.lq_model.specs.SqlAlter.{alter, alter_table, add, add_constraint, drop_part}
use Rattle.lq_model.specs.SqlTable.{stated_column, column_clause, target, column_key, column_unique, column_foreign, foreign_to as foreign_stated, create_table, table_item, column_item, table_of}
use Rattle.lq_model.specs.SqlConstraint.{table_constraint, stated_name, key, unique, foreign, on_delete}
use Rattle.lq_model.specs.SqlParser.{same_kind, sees, after, expect, ended, enclosed, separated, many, many_of, led_by}
use Rattle.lq_model.specs.SqlPart.{name, name_of, column_kind, object}
use Rattle.lq_model.specs.declared.statement.Statement.TheVariants.{AddForeignKey, AddPrimaryKey, AddUnique, CreateTable, DropConstraint, DropForeignKey, DropPrimaryKey, DropUnique}

pub constraints_spelled :
    Spell Postgresql (
    (AddPrimaryKey (codes "t") (key_on (codes "k") (id ∷ up ∷ [])), codes "ALTER TABLE \"t\" ADD CONSTRAINT \"k\" PRIMARY KEY (\"id\", \"up\")")
    ∷ (AddUnique (codes "t") (unique_on (codes "u") (id ∷ up ∷ [])), codes "ALTER TABLE \"t\" ADD CONSTRAINT \"u\" UNIQUE (\"id\", \"up\")")
    ∷ (
      AddForeignKey (codes "player") (foreign_to (codes "fk_player_team") (codes "team_id" ∷ []) (codes "team") (id ∷ []) false),
      codes "ALTER TABLE \"player\" ADD CONSTRAINT \"fk_player_team\" FOREIGN KEY (\"team_id\") REFERENCES \"team\" (\"id\")",
    )
    ∷ (
      AddForeignKey (codes "t") (foreign_to (codes "f") (id ∷ up ∷ []) (codes "q") (codes "a" ∷ codes "b" ∷ []) true),
      codes "ALTER TABLE \"t\" ADD CONSTRAINT \"f\" FOREIGN KEY (\"id\", \"up\") REFERENCES \"q\" (\"a\", \"b\") ON DELETE CASCADE",
    )
    ∷ (DropConstraint (codes "player") (codes "fk_player_team"), codes "ALTER TABLE \"player\" DROP CONSTRAINT \"fk_player_team\"")
    ∷ [])
    × Spell Mysql (
    (AddPrimaryKey (codes "t") (key_on (codes "PRIMARY") (id ∷ up ∷ [])), codes "ALTER TABLE `t` ADD PRIMARY KEY (`id`, `up`)")
    ∷ (AddUnique (codes "t") (unique_on (codes "u") (id ∷ up ∷ [])), codes "ALTER TABLE `t` ADD CONSTRAINT `u` UNIQUE (`id`, `up`)")
    ∷ (AddForeignKey (codes "t") (foreign_to (codes "f") (id ∷ []) (codes "q") (codes "a" ∷ []) false), codes "ALTER TABLE `t` ADD CONSTRAINT `f` FOREIGN KEY (`id`) REFERENCES `q` (`a`)")
    ∷ (
      AddForeignKey (codes "t") (foreign_to (codes "f") (id ∷ up ∷ []) (codes "q") (codes "a" ∷ codes "b" ∷ []) true),
      codes "ALTER TABLE `t` ADD CONSTRAINT `f` FOREIGN KEY (`id`, `up`) REFERENCES `q` (`a`, `b`) ON DELETE CASCADE",
    )
    ∷ (DropPrimaryKey (codes "t"), codes "ALTER TABLE `t` DROP PRIMARY KEY")
    ∷ (DropUnique (codes "t") (codes "u"), codes "ALTER TABLE `t` DROP INDEX `u`")
    ∷ (DropForeignKey (codes "t") (codes "f"), codes "ALTER TABLE `t` DROP FOREIGN KEY `f`")
    ∷ [])
unfolding phrase_words name_text quoted_text key_text unique_text foreign_text statement_in words kind_of_word unquoted statement alter alter_table add add_constraint drop_part table_constraint stated_name key unique foreign on_delete key_name enclosed separated many many_of led_by same_kind sees after expect ended name name_of lexemes length_at object
constraints_spelled = ((refl, refl, refl), (refl, refl, refl))

-- RESTRICT and NO ACTION are what holds without a clause; in mysql a key's name is passed over
pub constraints_read :
    Mean Postgresql (
    (AddForeignKey (codes "t") (foreign_to (codes "f") (id ∷ []) (codes "q") (codes "a" ∷ []) false), codes "alter table t add constraint f foreign key (id) references q (a) on delete restrict")
    ∷ (AddForeignKey (codes "t") (foreign_to (codes "f") (id ∷ []) (codes "q") (codes "a" ∷ []) false), codes "alter table t add constraint f foreign key (id) references q (a) on delete no action")
    ∷ [])
    × Mean Mysql (
    (AddPrimaryKey (codes "t") (key_on (codes "PRIMARY") (id ∷ [])), codes "alter table t add constraint k primary key (id)")
    ∷ (AddForeignKey (codes "t") (foreign_to (codes "f") (id ∷ []) (codes "q") (codes "a" ∷ []) false), codes "alter table t add constraint f foreign key (id) references q (a) on delete no action")
    ∷ [])
    × SpellNothing Postgresql (
    codes "alter table t drop primary key" ∷ codes "alter table t drop index u" ∷ codes "alter table t drop foreign key f" ∷ codes "alter table t add constraint u unique ()" ∷ codes "alter table t add constraint unique (id)"
    ∷ codes "alter table t add constraint f foreign key (id) references q (a) on delete set null" ∷ codes "alter table t add constraint f foreign key (id) references q" ∷ codes "alter table t add constraint k primary (id)" ∷ [])
    × SpellNothing Mysql (codes "alter table t drop constraint u" ∷ codes "alter table t drop unique u" ∷ codes "alter table t drop key u" ∷ [])
unfolding statement_in words kind_of_word unquoted statement alter alter_table add add_constraint drop_part table_constraint stated_name key unique foreign on_delete key_name enclosed separated many many_of led_by same_kind sees after expect ended name name_of lexemes length_at object
constraints_read = (refl, refl, refl, refl)

-- names by default, with the columns, of 63 bytes at most; a column's clauses in any order
pub names_by_default :
    (statement_in Postgresql (codes "alter table t add primary key (id, up)") ≡ Some (AddPrimaryKey (codes "t") (key_on (codes "pk_t") (id ∷ up ∷ []))))
    × (statement_in Postgresql (codes "alter table " ++ replicate 63 110 ++ codes " add primary key (id)") ≡ Some (AddPrimaryKey (replicate 63 110) (key_on (codes "pk_" ++ replicate 60 110) (id ∷ []))))
    × (statement_in Mysql (codes "alter table t add primary key (id, up)") ≡ Some (AddPrimaryKey (codes "t") (key_on (codes "PRIMARY") (id ∷ up ∷ []))))
    × (statement_in Mysql (codes "alter table t add unique (id, up)") ≡ Some (AddUnique (codes "t") (unique_on (codes "uq_t_id_up") (id ∷ up ∷ []))))
    × (statement_in Mysql (codes "alter table t add foreign key (id) references q (a)") ≡ Some (AddForeignKey (codes "t") (foreign_to (codes "fk_t_id") (id ∷ []) (codes "q") (codes "a" ∷ []) false)))
    × (statement_in Postgresql (codes "create table t (id int unique null primary key)")
    ≡ Some (CreateTable (codes "t") (def id kind.Int None ∷ []) (Some (key_on (codes "pk_t") (id ∷ []))) (unique_on (codes "uq_t_id") (id ∷ []) ∷ []) []))
    × (statement_in Postgresql (codes "create table t (id int references q (a) primary key)")
    ≡ Some (CreateTable (codes "t") (def id kind.Int None ∷ []) (Some (key_on (codes "pk_t") (id ∷ []))) [] (foreign_to (codes "fk_t_id") (id ∷ []) (codes "q") (codes "a" ∷ []) false ∷ [])))
    × (statement_in Mysql (codes "create table t (id int primary key unique references q (a))")
    ≡ Some (CreateTable (codes "t") (def id kind.Int None ∷ []) (Some (key_on (codes "PRIMARY") (id ∷ []))) (unique_on (codes "uq_t_id") (id ∷ []) ∷ []) (foreign_to (codes "fk_t_id") (id ∷ []) (codes "q") (codes "a" ∷ []) false ∷ [])))
unfolding statement_in words kind_of_word unquoted statement alter alter_table add add_constraint create create_table table_item column_item table_of stated_column column_clause target column_kind plain_kind column_key column_unique column_foreign foreign_stated key_name unique_name foreign_name table_constraint stated_name key unique foreign on_delete enclosed separated many many_of led_by same_kind sees after expect ended name name_of lexemes length_at object
names_by_default = (
  rw (plain_cut (codes "pk_t") refl refl) refl,
  rw (plain_front (codes "pk_" ++ replicate 63 110) refl) refl,
  refl,
  rw (plain_cut (codes "uq_t_id_up") refl refl) refl,
  rw (plain_cut (codes "fk_t_id") refl refl) refl,
  rw (plain_cut (codes "pk_t") refl refl, plain_cut (codes "uq_t_id") refl refl) refl,
  rw (plain_cut (codes "pk_t") refl refl, plain_cut (codes "fk_t_id") refl refl) refl,
  rw (plain_cut (codes "uq_t_id") refl refl, plain_cut (codes "fk_t_id") refl refl) refl,
)
