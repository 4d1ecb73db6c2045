-- Worked examples: the statement that a text means, computed from the grammar.
use Rattle.std.specs.Prelude.{None, Some, [], codes, false, pos, refl, true, ◌∷◌, ◌≡◌, neg_ℤ}
use Rattle.lq_base.specs.declared.dialect.Dialect.TheVariants.{Mysql, Postgresql}
use Rattle.lq_base.specs.declared.kind.Kind.TheVariants as kind
use Rattle.lq_base.specs.declared.literal.Literal.TheVariants as literal
use Rattle.lq_base.specs.Kind.{plain_kind, sized_kind}
use Rattle.lq_base.specs.Sql.{lexemes, length_at}
use Rattle.lq_model.proofs.ExampleWorld.{def, foreign_to, id, key_on, number, unique_on, up}
use Rattle.lq_model.proofs.PlainText.{plain_cut}
use Rattle.lq_model.specs.Sound.{key_name, unique_name, foreign_name}
use Rattle.lq_model.specs.SqlText.{statement_in}
use Rattle.lq_model.specs.SqlWord.{words, kind_of_word, unquoted}
use Rattle.lq_model.specs.SqlStatement.{statement, create, create_sequence, whole, step}
use Rattle.lq_model.specs.SqlAlter.{alter, alter_table, add, add_column, add_constraint, rename_part, rename_table_to, new_name, drop_object, drop_index, rename_table}
use Rattle.lq_model.specs.SqlTable.{added_column, stated_column, column_clause, identity, target, column_key, column_unique, column_foreign, foreign_to as foreign_stated, create_table, table_item, column_item, table_of}
use Rattle.lq_model.specs.SqlConstraint.{table_constraint, stated_name, key, foreign, on_delete}
use Rattle.lq_model.specs.SqlRows.{insert, stated_columns}
use Rattle.lq_model.specs.SqlParser.{same_kind, sees, after, expect, ended, enclosed, separated, many, many_of, led_by}
use Rattle.lq_model.specs.SqlPart.{name, name_of, column_kind, kind_with, sized_with, kind_number, literal as literal_rule, number as number_rule, object}
use Rattle.lq_model.specs.declared.statement.Statement.TheVariants.{AddColumn, AddForeignKey, CreateSequence, CreateTable, DropIndex, DropTable, Insert, RenameTable}

-- words in any case; an unquoted name is folded in postgresql and kept in mysql
pub drop_is_read :
    (statement_in Postgresql (codes "drop table T;") ≡ Some (DropTable (codes "t")))
    × (statement_in Mysql (codes "DROP/**/Table T") ≡ Some (DropTable (codes "T")))
    × (statement_in Postgresql (codes "drop table table") ≡ None)
    × (statement_in Postgresql (codes "drop table t;;") ≡ None)
    × (statement_in Postgresql (codes "drop table view") ≡ Some (DropTable (codes "view")))
unfolding statement_in words kind_of_word unquoted statement drop_object same_kind sees after expect ended name name_of lexemes length_at object
drop_is_read = (refl, refl, refl, refl, refl)

-- an index is named in mysql with its table, and in postgresql without
pub drop_index_is_read :
    (statement_in Postgresql (codes "drop index i") ≡ Some (DropIndex (codes "i") None))
    × (statement_in Postgresql (codes "drop index i on t") ≡ None)
    × (statement_in Mysql (codes "drop index i on t") ≡ Some (DropIndex (codes "i") (Some (codes "t"))))
    × (statement_in Mysql (codes "drop index i") ≡ None)
unfolding statement_in words kind_of_word unquoted statement drop_object drop_index same_kind sees after expect ended name name_of lexemes length_at object
drop_index_is_read = (
  refl,
  refl,
  refl,
  refl,
)

-- mysql has two spellings of a new name of a table
pub rename_is_read :
    (statement_in Mysql (codes "RENAME TABLE t TO i") ≡ Some (RenameTable (codes "t") (codes "i")))
    × (statement_in Mysql (codes "ALTER TABLE t RENAME TO i") ≡ Some (RenameTable (codes "t") (codes "i")))
    × (statement_in Postgresql (codes "RENAME TABLE t TO i") ≡ None)
unfolding statement_in words kind_of_word unquoted statement rename_table alter alter_table rename_part rename_table_to new_name same_kind sees after expect ended name name_of lexemes length_at object
rename_is_read = (
  refl,
  refl,
  refl,
)

-- without columns, and with mysql's backslashes
pub insert_is_read :
    (statement_in Mysql (codes "insert into t values ('a\\'b')") ≡ Some (Insert (codes "t") [] (literal.Text (codes "a'b") ∷ [])))
    × (statement_in Postgresql (codes "insert into t (id, up) values (-12, NULL)") ≡ Some (Insert (codes "t") (id ∷ up ∷ []) (literal.Int (neg_ℤ (pos 12)) ∷ literal.Null ∷ [])))
unfolding statement_in words kind_of_word unquoted statement insert stated_columns enclosed separated literal_rule number_rule many many_of led_by same_kind sees after expect ended name name_of lexemes length_at object
insert_is_read = (
  refl,
  refl,
)

-- a step of 0 is none
pub sequence_is_read :
    (statement_in Postgresql (codes "create sequence s start with 5 increment by -1") ≡ Some (CreateSequence (codes "s") (pos 5) (neg_ℤ (pos 1))))
    × (statement_in Postgresql (codes "create sequence s start with 5 increment by 0") ≡ None)
    × (statement_in Mysql (codes "create sequence s start with 5 increment by 1") ≡ None)
unfolding statement_in words kind_of_word unquoted statement create create_sequence whole step literal_rule number_rule same_kind sees after expect ended name name_of lexemes length_at object
sequence_is_read = (refl, refl, refl)

-- clauses in any order, each once, and none of a constraint
pub add_is_read :
    (statement_in Postgresql (codes "alter table t add id int default 7 not null") ≡ Some (AddColumn (codes "t") (record { name = id; kind = kind.Int; nullable = false; default = Some (number (pos 7)); numbered = false })))
    × (statement_in Postgresql (codes "alter table t add column id int null null") ≡ None)
    × (statement_in Postgresql (codes "alter table t add column id int primary key") ≡ None)
    × (statement_in Postgresql (codes "alter table t add column id varchar(03)") ≡ None)
unfolding statement_in words kind_of_word unquoted statement alter alter_table add add_column added_column stated_column column_clause column_kind kind_with sized_with kind_number plain_kind sized_kind literal_rule number_rule many many_of led_by same_kind sees after expect ended name name_of lexemes length_at object
add_is_read = (
  refl,
  refl,
  refl,
  refl,
)

-- names by default: of the table and the columns, in mysql always PRIMARY for the key
pub create_is_read :
    (statement_in Postgresql (codes "create table t (id int generated by default as identity primary key)")
    ≡ Some (CreateTable (codes "t") (record { name = id; kind = kind.Int; nullable = true; default = None; numbered = true } ∷ []) (Some (key_on (codes "pk_t") (id ∷ []))) [] []))
    × (statement_in Postgresql (codes "create table t (up int unique references q (id))")
    ≡ Some (CreateTable (codes "t") (def up kind.Int None ∷ []) None (unique_on (codes "uq_t_up") (up ∷ []) ∷ []) (foreign_to (codes "fk_t_up") (up ∷ []) (codes "q") (id ∷ []) false ∷ [])))
    × (statement_in Mysql (codes "create table t (id int, constraint k primary key (id))") ≡ Some (CreateTable (codes "t") (def id kind.Int None ∷ []) (Some (key_on (codes "PRIMARY") (id ∷ []))) [] []))
    × (statement_in Postgresql (codes "create table t (id int primary key, primary key (id))") ≡ None)
    × (statement_in Postgresql (codes "create table t (primary key (id), id int)") ≡ None)
unfolding statement_in words kind_of_word unquoted statement create create_table table_item column_item table_of stated_column column_clause identity target column_kind plain_kind column_key column_unique column_foreign foreign_stated key_name unique_name foreign_name table_constraint stated_name key foreign on_delete enclosed separated many many_of led_by same_kind sees after expect ended name name_of lexemes length_at object
create_is_read = (
  rw (plain_cut (codes "pk_t") refl refl) refl,
  rw (plain_cut (codes "uq_t_up") refl refl, plain_cut (codes "fk_t_up") refl refl) refl,
  refl,
  rw (plain_cut (codes "pk_t") refl refl, plain_cut (codes "pk_t") refl refl) refl,
  rw (plain_cut (codes "pk_t") refl refl) refl,
)

pub constraint_is_read :
    statement_in Postgresql (codes "alter table t add foreign key (up, id) references q (a, b) on delete cascade")
    ≡ Some (AddForeignKey (codes "t") (foreign_to (codes "fk_t_up_id") (up ∷ id ∷ []) (codes "q") (codes "a" ∷ codes "b" ∷ []) true))
unfolding statement_in words kind_of_word unquoted statement alter alter_table add add_constraint foreign_name table_constraint stated_name foreign on_delete enclosed separated many many_of led_by same_kind sees after expect ended name name_of lexemes length_at object
constraint_is_read = rw (plain_cut (codes "fk_t_up_id") refl refl) refl
