-- The grammar of INSERT, UPDATE and DELETE.
use Rattle.std.specs.Prelude.{List, [], if◌then◌else◌}
use Rattle.lq_base.specs.declared.dialect.Dialect.{Dialect}
use Rattle.lq_base.specs.declared.literal.Literal.{Literal}
use Rattle.lq_base.specs.declared.name.Name.{Name}
use Rattle.lq_model.specs.SqlParser.{Parser, enclosed, expect, peek, pure, same_kind, separated, ◌>>=◌, ◌>>◌}
use Rattle.lq_model.specs.SqlPart.{literal, name, object}
use Rattle.lq_model.specs.SqlTest.{where_test}
use Rattle.lq_model.specs.declared.statement.Statement.{Statement}
use Rattle.lq_model.specs.declared.statement.Statement.TheVariants.{Delete, Insert, Update}
use Rattle.lq_model.specs.declared.word.WordKind.TheVariants as word

-- the columns that get values: `(c)`, or all of the table's
unfoldable pub stated_columns : Parser (List Name)
stated_columns = do
  found ← peek
  if same_kind found word.Open then enclosed name else pure []

-- `INTO q [(c)] VALUES (lit, ..)`
unfoldable pub insert : Dialect → Parser Statement
insert d = do
  expect word.Into
  table ← object d
  columns ← stated_columns
  expect word.Values
  values ← enclosed literal
  pure (Insert table columns values)

-- `q = lit`
unfoldable pub assignment : Parser (Name × Literal)
assignment = do
  column ← name
  expect word.Equal
  value ← literal
  pure (column, value)

-- `q SET q = lit, .. [WHERE test]`
unfoldable pub update : Dialect → Parser Statement
update d = do
  table ← object d
  expect word.Set
  sets ← separated assignment
  test ← where_test
  pure (Update table sets test)

-- `FROM q [WHERE test]`
unfoldable pub delete : Dialect → Parser Statement
delete d = do
  expect word.From
  table ← object d
  test ← where_test
  pure (Delete table test)
