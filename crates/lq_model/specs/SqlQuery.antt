-- The grammar of queries.
use Rattle.std.specs.Prelude.{Bool, List, Some, if◌then◌else◌, ◌&&◌}
use Rattle.lq_base.specs.declared.dialect.Dialect.{Dialect}
use Rattle.lq_model.specs.SqlParser.{Parser, eat, expect, next, pure, sees, separated, ◌>>=◌, ◌>>◌}
use Rattle.lq_model.specs.SqlPart.{name, object}
use Rattle.lq_model.specs.SqlTest.{where_test}
use Rattle.lq_model.specs.declared.query.Query.{Query}
use Rattle.lq_model.specs.declared.query.Wanted.{Wanted}
use Rattle.lq_model.specs.declared.query.Wanted.TheVariants as wanted
use Rattle.lq_model.specs.declared.word.Word.{Word}
use Rattle.lq_model.specs.declared.word.WordKind.TheVariants as word

-- COUNT is the count exactly where `(` follows it
unfoldable pub sees_count : List Word → Bool
sees_count i = sees word.Count i && sees word.Open (next i)

abbrev pub peek_count : Parser Bool
peek_count = λ i. Some (sees_count i, i)

unfoldable pub count : Parser Wanted
count = do
  expect word.Count
  expect word.Open
  expect word.Star
  expect word.Close
  pure wanted.Count

unfoldable pub columns : Parser Wanted
columns = do
  names ← separated name
  pure (wanted.Columns names)

-- `*`, `COUNT(*)` or names
unfoldable pub selected : Parser Wanted
selected = do
  all ← eat word.Star
  counted ← peek_count
  if all then pure wanted.All else (if counted then count else columns)

unfoldable pub query : Dialect → Parser Query
query d = do
  expect word.Select
  found ← selected
  expect word.From
  from ← object d
  test ← where_test
  pure (record { wanted = found; table = from; test = test })
