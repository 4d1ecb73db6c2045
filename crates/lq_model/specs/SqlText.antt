-- What an SQL text means: the one statement, query or test that is spelled so, or none.
use Rattle.std.specs.Option.{option_and_then}
use Rattle.std.specs.Prelude.{List, None, Option, Some, true, ℕ, ◌≡◌}
use Rattle.lq_base.specs.declared.dialect.Dialect.{Dialect}
use Rattle.lq_model.specs.SqlParser.{Outcome, Parser, to_end}
use Rattle.lq_model.specs.SqlQuery.{query}
use Rattle.lq_model.specs.SqlStatement.{statement}
use Rattle.lq_model.specs.SqlTest.{any_test}
use Rattle.lq_model.specs.SqlWord.{words}
use Rattle.lq_model.specs.Step.{is_query, is_statement, is_where}
use Rattle.lq_model.specs.declared.query.Query.{Query}
use Rattle.lq_model.specs.declared.statement.Statement.{Statement}
use Rattle.lq_model.specs.declared.test.Test.{Test}

abbrev pub read : {A : Type 0} → Outcome A → Option A
read None = None
read (Some found) = Some found.0

-- what all words of a text spell
abbrev pub whole : {A : Type 0} → Parser A → Dialect → List ℕ → Option A
whole parser d text = option_and_then (λ ws. read (to_end parser ws)) (words d text)

unfoldable pub test_in : Dialect → List ℕ → Option Test
test_in d text = whole any_test d text

unfoldable pub query_in : Dialect → List ℕ → Option Query
query_in d text = whole (query d) d text

unfoldable pub statement_in : Dialect → List ℕ → Option Statement
statement_in d text = whole (statement d) d text

-- what is read is a statement of the dialect
abbrev pub StatementsAreSpelled : Dialect → Type 0
StatementsAreSpelled d = (text : List ℕ) (s : Statement) → statement_in d text ≡ Some s → is_statement d s ≡ true

-- so is a query
abbrev pub QueriesAreSpelled : Dialect → Type 0
QueriesAreSpelled d = (text : List ℕ) (q : Query) → query_in d text ≡ Some q → is_query d q ≡ true

-- so is a test
abbrev pub TestsAreSpelled : Dialect → Type 0
TestsAreSpelled d = (text : List ℕ) (t : Test) → test_in d text ≡ Some t → is_where (Some t) ≡ true
