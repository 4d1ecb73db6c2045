-- What is read of a node is a change of the dialect.
use Rattle.std.specs.List.{list_all}
use Rattle.std.specs.Option.{option_map}
use Rattle.std.specs.Prelude.{IfOk, IfSome, List, None, Option, Some, [], codes, option_and_then, refl, true, ℕ, ◌∷◌, ◌≡◌}
use Rattle.lq_base.specs.declared.dialect.Dialect.{Dialect}
use Rattle.lq_base.specs.declared.dialect.Dialect.TheVariants.{Mysql, Postgresql}
use Rattle.lq_model.proofs.Lists.{and_true}
use Rattle.lq_model.specs.SqlText.{StatementsAreSpelled, TestsAreSpelled, statement_in, test_in}
use Rattle.lq_model.specs.Step.{is_statement}
use Rattle.lq_model.specs.declared.statement.Statement.{Statement}
use Rattle.lq_model.specs.declared.test.Test.{Test}
use Rattle.lq_tree.proofs.Says.{IsSo, Says, Takes, all_found, anything, change_so, column_so, family_so, given, map_so, map_with_so, name_so, optional_so, or_bad_so, printed_so, required_items_so, required_so, start, then_so, within_so}
use Rattle.lq_tree.specs.Look.{Found, map_found, or_bad, within}
use Rattle.lq_tree.specs.Given.{a_text}
use Rattle.lq_tree.specs.Keys.{Keys, fields, place, required, ◌⊛◌}
use Rattle.lq_data.specs.ColumnValue as column
use Rattle.lq_data.specs.Delete as delete
use Rattle.lq_data.specs.Empty as empty
use Rattle.lq_data.specs.ColumnValue.{GivenSql, is_dialect}
use Rattle.lq_data.specs.Sql.{a_test, is_test}
use Rattle.lq_data.specs.Insert as insert
use Rattle.lq_data.specs.Script.{Script, all_spelled, pieces_of, script, statements_in}
use Rattle.lq_data.specs.Sql as sql
use Rattle.lq_data.specs.TagDatabase as tag_database
use Rattle.lq_data.specs.Update as update

dialect_itself : (d : Dialect) → is_dialect d d ≡ true
dialect_itself Postgresql = refl
dialect_itself Mysql = refl

-- ---- rows

column_right : Takes (IsSo column.is_column_value) column.column_value
unfolding column.column_value
column_right = map_with_so (IsSo column.is_column_value) (codes "remarks" ∷ []) column.keys (given family_so (given (required_so name_so) (start (λ name is_name value fits. and_true _ _ is_name fits))))

test_right : (d : Dialect) → TestsAreSpelled d → Takes (IsSo (is_test d)) (a_test d)
test_right d spelled = record { of = λ n. then_so (λ _. Unit {0}) (IsSo (is_test d)) (a_text n) (λ t. map_found (λ test. record { dialect = d; text = t }) (or_bad (test_in d t))) (all_found (a_text n)) (λ t _. by t (test_in d t) refl) } where
  by : (t : List ℕ) (test : Option Test) → test_in d t ≡ test → IfOk (map_found (λ test. record { dialect = d; text = t }) (or_bad test)) (IsSo (is_test d))
  by t None is = tt
  by t (Some test) is = and_true _ _ (dialect_itself d) (rw is (spelled t test is))

pub insert_right : (d : Dialect) → Takes (IsSo (insert.is_for d)) insert.an_insert
unfolding insert.an_insert
insert_right d = change_so (IsSo (insert.is_for d)) insert.keys (given (required_items_so (column_so column_right)) (given (required_so name_so) (start (λ table is_table columns are_columns. and_true _ _ is_table are_columns))))

pub update_right : (d : Dialect) → TestsAreSpelled d → Takes (IsSo (update.is_for d)) (update.an_update d)
unfolding update.an_update
update_right d spelled = change_so (IsSo (update.is_for d)) (update.keys d) (
    given (optional_so (test_right d spelled)) (given (required_items_so (column_so column_right)) (given (required_so name_so) (start (λ table is_table columns are_columns test is_test.
    and_true _ _ is_table (and_true _ _ are_columns is_test))))))

pub delete_right : (d : Dialect) → TestsAreSpelled d → Takes (IsSo (delete.is_for d)) (delete.a_delete d)
unfolding delete.a_delete
delete_right d spelled = change_so (IsSo (delete.is_for d)) (delete.keys d) (given (optional_so (test_right d spelled)) (given (required_so name_so) (start (λ table is_table test is_test. and_true _ _ is_table is_test))))

-- ---- texts of statements

all_right : (d : Dialect) → StatementsAreSpelled d → (pieces : List (List ℕ)) → IfSome (all_spelled d pieces) (λ ss. list_all (is_statement d) ss ≡ true)
all_right d spelled [] = refl
all_right d spelled (piece ∷ more) = by (statement_in d piece) refl (all_spelled d more) (all_right d spelled more) where
  by : (first : Option Statement) → statement_in d piece ≡ first → (rest : Option (List Statement)) → IfSome rest (λ ss. list_all (is_statement d) ss ≡ true) → IfSome (option_and_then (λ s. option_map (λ ss. s ∷ ss) rest) first) (λ ss. list_all (is_statement d) ss ≡ true)
  by None is rest are = tt
  by (Some s) is None are = tt
  by (Some s) is (Some ss) are = and_true _ _ (spelled piece s is) are

written_right : (d : Dialect) → StatementsAreSpelled d → (pieces : Option (List (List ℕ))) → IfSome (option_and_then (all_spelled d) pieces) (λ ss. list_all (is_statement d) ss ≡ true)
written_right d spelled None = tt
written_right d spelled (Some pieces) = all_right d spelled pieces

with_right : (d : Dialect) → StatementsAreSpelled d → (t : List ℕ) (split : _) (delimiter : List ℕ) → IfOk (sql.with_statements (script d t split delimiter)) (IsSo (sql.is_for d))
with_right d spelled t split delimiter = by (statements_in (script d t split delimiter)) refl (written_right d spelled (pieces_of (script d t split delimiter))) where
  by : (ss : Option (List Statement)) → statements_in (script d t split delimiter) ≡ ss → IfSome ss (λ ss. list_all (is_statement d) ss ≡ true) → IfOk (map_found (λ ss. script d t split delimiter) (within (codes "sql") (or_bad ss))) (IsSo (sql.is_for d))
  by None is are = tt
  by (Some ss) is are = and_true _ _ (dialect_itself d) (rw is are)

opened_so : {A : Type 0} (P : A → Type 0) (k : Keys (Found A)) → Says (λ found. IfOk found P) k → Says P (sql.opened k)
opened_so P k so = record { of = λ n. then_so (λ found. IfOk found P) P (k.says n) (λ found. found) (so.of n) (λ found is. is) }

pub sql_right : (d : Dialect) → StatementsAreSpelled d → Takes (IsSo (sql.is_for d)) (sql.a_sql d)
unfolding sql.a_sql
sql_right d spelled = map_with_so (IsSo (sql.is_for d)) (codes "stripComments" ∷ codes "remarks" ∷ []) (fields (λ change place. change) ⊛ sql.keys d ⊛ place) (
    given {k = place} anything (given
    (opened_so (IsSo (sql.is_for d)) _ (given {k = sql.delimiter_keys} anything (given {k = sql.split_keys} anything (given {k = required (codes "sql") a_text} anything (start (λ t _ split _ delimiter _. with_right d spelled t split delimiter))))))
    (start (λ change is there _. is))))

-- ---- the others

pub tag_database_right : (d : Dialect) → Takes (IsSo (tag_database.is_for d)) tag_database.a_tag_database
unfolding tag_database.a_tag_database
tag_database_right d = change_so (IsSo (tag_database.is_for d)) tag_database.keys (given (required_so (record { of = printed_so tag_database.is_tag })) (start (λ tag is. is)))

pub empty_right : (d : Dialect) → Takes (IsSo (empty.is_for d)) empty.an_empty
unfolding empty.an_empty
empty_right d = change_so (IsSo (empty.is_for d)) empty.keys (start refl)
