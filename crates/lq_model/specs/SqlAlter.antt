-- The grammar of ALTER.
use Rattle.std.specs.Prelude.{None, Some, false, if◌then◌else◌, true}
use Rattle.lq_base.specs.Name.{beside, text_of}
use Rattle.lq_base.specs.declared.dialect.Dialect.{Dialect}
use Rattle.lq_base.specs.declared.dialect.Dialect.TheVariants.{Mysql, Postgresql}
use Rattle.lq_base.specs.declared.name.Name.{Name}
use Rattle.lq_model.specs.SqlConstraint.{begins_constraint, table_constraint}
use Rattle.lq_model.specs.SqlParser.{Parser, eat, expect, peek, pure, refuse, skip, ◌>>=◌, ◌>>◌}
use Rattle.lq_model.specs.SqlPart.{column_kind, literal, name, object}
use Rattle.lq_model.specs.SqlTable.{added_column}
use Rattle.lq_model.specs.declared.statement.Statement.{Statement}
use Rattle.lq_model.specs.declared.statement.Statement.TheVariants.{AddColumn, AddForeignKey, AddPrimaryKey, AddUnique, DropColumn, DropConstraint, DropDefault, DropForeignKey, DropIndex, DropNotNull, DropPrimaryKey, DropSequence, DropTable, DropUnique, DropView, Modify, RenameColumn, RenameSequence, RenameTable, RenameView, SetDefault, SetNotNull}
use Rattle.lq_model.specs.declared.table_item.TableConstraint.{TableConstraint}
use Rattle.lq_model.specs.declared.table_item.TableConstraint.TheVariants as constraint
use Rattle.lq_model.specs.declared.word.WordKind.{WordKind}
use Rattle.lq_model.specs.declared.word.WordKind.TheVariants as word

-- `TO q`: a name of an object in the schema that it is in
unfoldable pub new_name : Name → Parser Name
new_name old = do
  expect word.To
  to ← name
  pure (beside old (text_of to))

-- what follows ADD

abbrev pub constraint_added : Name → TableConstraint → Statement
constraint_added table (constraint.Key key) = AddPrimaryKey table key
constraint_added table (constraint.Unique unique) = AddUnique table unique
constraint_added table (constraint.Foreign foreign) = AddForeignKey table foreign

unfoldable pub add_constraint : Dialect → Name → Parser Statement
add_constraint d table = do
  found ← table_constraint d table
  pure (constraint_added table found)

-- `[COLUMN] coldef`
unfoldable pub add_column : Dialect → Name → Parser Statement
add_column d table = do
  eat word.Column
  column ← added_column d
  pure (AddColumn table column)

unfoldable pub add : Dialect → Name → Parser Statement
add d table = do
  found ← peek
  if begins_constraint found then add_constraint d table else add_column d table

-- what follows DROP

abbrev pub drop_part_by : Dialect → Name → WordKind → Parser Statement
drop_part_by d table word.Column = skip >> (do column ← name; pure (DropColumn table column))
drop_part_by Postgresql table word.Constraint = skip >> (do found ← name; pure (DropConstraint table found))
drop_part_by Mysql table word.Primary = skip >> (expect word.Key >> pure (DropPrimaryKey table))
drop_part_by Mysql table word.Index = skip >> (do found ← name; pure (DropUnique table found))
drop_part_by Mysql table word.Foreign = skip >> (expect word.Key >> (do found ← name; pure (DropForeignKey table found)))
drop_part_by d table _ = refuse

unfoldable pub drop_part : Dialect → Name → Parser Statement
drop_part d table = peek >>= drop_part_by d table

-- what follows ALTER COLUMN q

abbrev pub set_by : Dialect → Name → Name → WordKind → Parser Statement
set_by Postgresql table column word.Not = skip >> (expect word.Null >> pure (SetNotNull table column))
set_by d table column word.Default = skip >> (do value ← literal; pure (SetDefault table column value))
set_by d table column _ = refuse

unfoldable pub set_part : Dialect → Name → Name → Parser Statement
set_part d table column = peek >>= set_by d table column

abbrev pub unset_by : Dialect → Name → Name → WordKind → Parser Statement
unset_by Postgresql table column word.Not = skip >> (expect word.Null >> pure (DropNotNull table column))
unset_by d table column word.Default = skip >> pure (DropDefault table column)
unset_by d table column _ = refuse

unfoldable pub unset_part : Dialect → Name → Name → Parser Statement
unset_part d table column = peek >>= unset_by d table column

abbrev pub alter_column_by : Dialect → Name → Name → WordKind → Parser Statement
alter_column_by d table column word.Set = skip >> set_part d table column
alter_column_by d table column word.Drop = skip >> unset_part d table column
alter_column_by d table column _ = refuse

unfoldable pub alter_column : Dialect → Name → Parser Statement
alter_column d table = do
  expect word.Column
  column ← name
  found ← peek
  alter_column_by d table column found

-- what follows RENAME

unfoldable pub rename_column : Name → Parser Statement
rename_column table = do
  column ← name
  expect word.To
  to ← name
  pure (RenameColumn table column to)

unfoldable pub rename_table_to : Name → Parser Statement
rename_table_to table = do
  to ← new_name table
  pure (RenameTable table to)

unfoldable pub rename_part : Name → Parser Statement
rename_part table = do
  column ← eat word.Column
  if column then rename_column table else rename_table_to table

-- what follows MODIFY: `q KIND NULL` or `q KIND NOT NULL`
unfoldable pub modify : Name → Parser Statement
modify table = do
  column ← name
  kind ← column_kind
  required ← eat word.Not
  expect word.Null
  pure (Modify table column kind (if required then false else true))

abbrev pub alter_table_by : Dialect → Name → WordKind → Parser Statement
alter_table_by d table word.Add = skip >> add d table
alter_table_by d table word.Alter = skip >> alter_column d table
alter_table_by d table word.Drop = skip >> drop_part d table
alter_table_by d table word.Rename = skip >> rename_part table
alter_table_by Mysql table word.Modify = skip >> modify table
alter_table_by d table _ = refuse

-- what follows ALTER TABLE
unfoldable pub alter_table : Dialect → Parser Statement
alter_table d = do
  table ← object d
  found ← peek
  alter_table_by d table found

-- what follows ALTER VIEW and ALTER SEQUENCE: `q RENAME TO q`

unfoldable pub alter_view : Dialect → Parser Statement
alter_view d = do
  view ← object d
  expect word.Rename
  to ← new_name view
  pure (RenameView view to)

unfoldable pub alter_sequence : Dialect → Parser Statement
alter_sequence d = do
  sequence ← object d
  expect word.Rename
  to ← new_name sequence
  pure (RenameSequence sequence to)

abbrev pub alter_by : Dialect → WordKind → Parser Statement
alter_by d word.Table = skip >> alter_table d
alter_by Postgresql word.View = skip >> alter_view Postgresql
alter_by Postgresql word.Sequence = skip >> alter_sequence Postgresql
alter_by d _ = refuse

unfoldable pub alter : Dialect → Parser Statement
alter d = peek >>= alter_by d

-- The grammar of DROP, and of mysql's RENAME TABLE.

-- `q`, in mysql `q ON q`
unfoldable pub drop_index : Dialect → Parser Statement
drop_index Postgresql = do
  index ← object Postgresql
  pure (DropIndex index None)
drop_index Mysql = do
  index ← name
  expect word.On
  table ← name
  pure (DropIndex index (Some table))

abbrev pub drop_object_by : Dialect → WordKind → Parser Statement
drop_object_by d word.Table = skip >> (do table ← object d; pure (DropTable table))
drop_object_by d word.Index = skip >> drop_index d
drop_object_by d word.View = skip >> (do view ← object d; pure (DropView view))
drop_object_by Postgresql word.Sequence = skip >> (do sequence ← object Postgresql; pure (DropSequence sequence))
drop_object_by d _ = refuse

unfoldable pub drop_object : Dialect → Parser Statement
drop_object d = peek >>= drop_object_by d

-- `TABLE q TO q`
unfoldable pub rename_table : Parser Statement
rename_table = do
  expect word.Table
  table ← name
  rename_table_to table
