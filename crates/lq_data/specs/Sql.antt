-- Tests of rows as they are given.
use Rattle.std.specs.List.{list_all}
use Rattle.std.specs.Option.{unwrap_or}
use Rattle.std.specs.Prelude.{Bool, List, None, Option, Result, Some, [], codes, false, option_and_then, true, ℕ, ◌&&◌, ◌∷◌}
use Rattle.lq_base.specs.declared.dialect.Dialect.{Dialect}
use Rattle.lq_base.specs.declared.reason.Reason.{Reason}
use Rattle.lq_data.specs.ColumnValue.{GivenSql, is_dialect}
use Rattle.lq_data.specs.Script.{Script, is_delimiter, script, statements_in}
use Rattle.lq_model.specs.Catalogue.{Catalogue}
use Rattle.lq_model.specs.Changes.{CanonicalChange, CanonicalValue, text, truth}
use Rattle.lq_model.specs.SqlText.{test_in}
use Rattle.lq_model.specs.Step.{is_statement, is_where, run}
use Rattle.lq_model.specs.TakesBack.{Row, change_of}
use Rattle.lq_model.specs.declared.caller.By.TheVariants.{User}
use Rattle.lq_model.specs.declared.statement.Statement.{Statement}
use Rattle.lq_model.specs.declared.test.Test.{Test}
use Rattle.lq_tree.specs.Given.{a_text, a_truth, if_so}
use Rattle.lq_tree.specs.Keys.{Keys, fields, map_with, optional, place, required, ◌⊛◌}
use Rattle.lq_tree.specs.Look.{Found, Taken, and_then, map_found, or_bad, printed_of, within}

-- a scalar that is printed as a text which spells a test
abbrev pub a_test : Dialect → Taken GivenSql
a_test d n = and_then (a_text n) (λ t. map_found (λ test. record { dialect = d; text = t }) (or_bad (test_in d t)))

abbrev pub where_keys : Dialect → Keys (Option GivenSql)
where_keys d = optional (codes "where") (a_test d)

-- there is a test, and it can be written
abbrev pub is_written : Option Test → Bool
is_written None = false
is_written (Some test) = is_where (Some test)

-- it was read for the dialect, in which it spells a test
abbrev pub is_test : Dialect → GivenSql → Bool
is_test d given = is_dialect d given.dialect && is_written (test_in given.dialect given.text)

-- the test that it spells, where one was given
abbrev pub test_of : Option GivenSql → Option Test
test_of given = option_and_then (λ (g : GivenSql). test_in g.dialect g.text) given

-- its canonical value is its text
abbrev pub given_text : GivenSql → CanonicalValue
given_text given = text given.text

-- sql: the statements that a text spells are run.

-- its keys

-- a scalar that is printed as a text which is not empty
abbrev pub a_delimiter : Taken (List ℕ)
a_delimiter n = or_bad (option_and_then (if_so is_delimiter) (printed_of n))

-- keys with a value for where they are not there
abbrev pub by_default : {A : Type 0} → A → Keys (Option A) → Keys A
by_default a k = record { names = k.names; says = λ n. map_found (λ o. unwrap_or o a) (k.says n) }

-- keys that may still be at fault when all of them were read
abbrev pub opened : {A : Type 0} → Keys (Found A) → Keys A
opened k = record { names = k.names; says = λ n. and_then (k.says n) (λ found. found) }

-- a text that spells no statements is bad
abbrev pub with_statements : Script → Found Script
with_statements x = map_found (λ ss. x) (within (codes "sql") (or_bad (statements_in x)))

abbrev pub split_keys : Keys Bool
split_keys = by_default true (optional (codes "splitStatements") a_truth)

abbrev pub delimiter_keys : Keys (List ℕ)
delimiter_keys = by_default (codes ";") (optional (codes "endDelimiter") a_delimiter)

abbrev pub keys : Dialect → Keys Script
keys d = opened (
    fields (λ sql split delimiter. with_statements (script d sql split delimiter))
    ⊛ required (codes "sql") a_text
    ⊛ split_keys
    ⊛ delimiter_keys)

-- and the place of all changes; whether comments are taken out does not matter
unfoldable pub a_sql : Dialect → Taken Script
a_sql d = map_with (codes "stripComments" ∷ codes "remarks" ∷ []) (fields (λ change place. change) ⊛ keys d ⊛ place)

-- there are statements of the dialect
abbrev pub are_written : Dialect → Option (List Statement) → Bool
are_written d None = false
are_written d (Some ss) = list_all (is_statement d) ss

-- it was read for the dialect, in which it spells statements
abbrev pub is_for : Dialect → Script → Bool
is_for d x = is_dialect d x.dialect && are_written d (statements_in x)

-- what it does

abbrev pub gives : Dialect → Script → List Statement
gives d x = unwrap_or (statements_in x) []

-- what its statements in order make of the catalogue, or the first reason against one
abbrev pub effect : Dialect → Script → Catalogue → Result Catalogue Reason
effect d x c = run User d (gives d x) c

abbrev pub is_fresh : Dialect → Script → Catalogue → Bool
is_fresh d x c = true

-- nothing is known that takes it back
abbrev pub inverse : Dialect → Script → Option (List Statement)
inverse d x = None

-- its canonical text

abbrev pub rows : Script → List Row
rows x =
    (codes "sql", Some (text x.sql))
    ∷ (codes "splitStatements", Some (truth x.split_statements))
    ∷ (codes "endDelimiter", Some (text x.end_delimiter))
    ∷ []

abbrev pub canonical_of : Script → CanonicalChange
canonical_of x = change_of (codes "sql") (rows x)
