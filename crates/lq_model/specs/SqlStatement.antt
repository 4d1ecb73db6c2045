-- The grammar of CREATE.
use Rattle.std.specs.Ordering.{int_eq}
use Rattle.std.specs.Prelude.{Bool, false, if◌then◌else◌, pos, true, ℤ}
use Rattle.lq_base.specs.declared.dialect.Dialect.{Dialect}
use Rattle.lq_base.specs.declared.dialect.Dialect.TheVariants.{Mysql, Postgresql}
use Rattle.lq_base.specs.declared.literal.Literal.{Literal}
use Rattle.lq_base.specs.declared.literal.Literal.TheVariants as constant
use Rattle.lq_model.specs.SqlAlter.{alter, drop_object, rename_table}
use Rattle.lq_model.specs.SqlParser.{Parser, enclosed, expect, peek, pure, refuse, skip, ◌>>=◌, ◌>>◌}
use Rattle.lq_model.specs.SqlPart.{literal, name, object}
use Rattle.lq_model.specs.SqlQuery.{query}
use Rattle.lq_model.specs.SqlRows.{delete, insert, update}
use Rattle.lq_model.specs.SqlTable.{create_table}
use Rattle.lq_model.specs.declared.statement.Statement.{Statement}
use Rattle.lq_model.specs.declared.statement.Statement.TheVariants.{CreateIndex, CreateSequence, CreateView}
use Rattle.lq_model.specs.declared.word.WordKind.{WordKind}
use Rattle.lq_model.specs.declared.word.WordKind.TheVariants as word

-- `INDEX q ON q (c)`
unfoldable pub create_index : Dialect → Bool → Parser Statement
create_index d unique = do
  expect word.Index
  index ← name
  expect word.On
  table ← object d
  columns ← enclosed name
  pure (CreateIndex table (record { name = index; columns = columns; unique = unique }))

-- `VIEW q AS query`
unfoldable pub create_view : Dialect → Bool → Parser Statement
create_view d replace = do
  expect word.View
  view ← object d
  expect word.As
  it ← query d
  pure (CreateView view it replace)

abbrev pub whole_of : Literal → Parser ℤ
whole_of (constant.Int n) = pure n
whole_of _ = refuse

-- a whole number
unfoldable pub whole : Parser ℤ
whole = literal >>= whole_of

-- a step of 0 is none
unfoldable pub step : Parser ℤ
step = do
  n ← whole
  if int_eq n (pos 0) then refuse else pure n

-- `q START WITH n INCREMENT BY n`
unfoldable pub create_sequence : Dialect → Parser Statement
create_sequence d = do
  sequence ← object d
  expect word.Start
  expect word.With
  start ← whole
  expect word.Increment
  expect word.By
  size ← step
  pure (CreateSequence sequence start size)

abbrev pub create_by : Dialect → WordKind → Parser Statement
create_by d word.Table = skip >> create_table d
create_by d word.Index = create_index d false
create_by d word.Unique = skip >> create_index d true
create_by d word.View = create_view d false
create_by d word.Or = skip >> (expect word.Replace >> create_view d true)
create_by Postgresql word.Sequence = skip >> create_sequence Postgresql
create_by d _ = refuse

unfoldable pub create : Dialect → Parser Statement
create d = peek >>= create_by d

-- The grammar of statements, by their first word.

abbrev pub statement_by : Dialect → WordKind → Parser Statement
statement_by d word.Create = skip >> create d
statement_by d word.Drop = skip >> drop_object d
statement_by d word.Alter = skip >> alter d
statement_by Mysql word.Rename = skip >> rename_table
statement_by d word.Insert = skip >> insert d
statement_by d word.Update = skip >> update d
statement_by d word.Delete = skip >> delete d
statement_by d _ = refuse

unfoldable pub statement : Dialect → Parser Statement
statement d = peek >>= statement_by d
