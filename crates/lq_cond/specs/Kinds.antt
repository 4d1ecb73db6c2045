-- Lists of dialects' names.
use Rattle.std.specs.List.{filter, list_all, list_any}
use Rattle.std.specs.Map.{lookup}
use Rattle.std.specs.Prelude.{Bool, Err, List, None, Option, Some, [], codes, false, map, not, ℕ, ◌&&◌, ◌++◌, ◌==◌, ◌||◌, ◌∷◌}
use Rattle.std.specs.Str.{bytes_eq, str_eq_ignore_ascii_case}
use Rattle.lq_base.specs.Name.{dialect_text}
use Rattle.lq_base.specs.declared.dialect.Dialect.{Dialect}
use Rattle.lq_base.specs.declared.fault.KindFault.TheVariants.{Unknown}
use Rattle.lq_cond.specs.declared.condition.Condition.{Condition}
use Rattle.lq_cond.specs.declared.condition.Condition.TheVariants as condition
use Rattle.lq_cond.specs.declared.kinds.ConditionKind.{ConditionKind}
use Rattle.lq_cond.specs.declared.kinds.ConditionKind.TheVariants.{ChangeSetExecuted, ColumnExists, Dbms, ForeignKeyConstraintExists, IndexExists, PrimaryKeyExists, RowCount, SequenceExists, SqlCheck, TableExists, TableIsEmpty, UniqueConstraintExists, ViewExists}
use Rattle.lq_model.specs.SqlText.{query_in}
use Rattle.lq_model.specs.declared.query.Query.{Query}
use Rattle.lq_tree.specs.Given.{a_name, a_text, a_whole, comma_parts, without_blanks}
use Rattle.lq_tree.specs.Items.{is_empty}
use Rattle.lq_tree.specs.Keys.{Keys, fields, map_with, optional, place, required, ◌⊛◌}
use Rattle.lq_tree.specs.Look.{Taken, and_then, or_bad, within}

-- the parts without the blanks around them, those without a character left out
abbrev pub names_of : List (List ℕ) → List (List ℕ)
names_of parts = filter (λ name. not (is_empty name)) (map without_blanks parts)

-- the names of a text with commas between
abbrev pub names_in : List ℕ → List (List ℕ)
names_in text = names_of (comma_parts text)

-- a name with `!` in front
abbrev pub is_excluding : List ℕ → Bool
is_excluding [] = false
is_excluding (b ∷ bs) = b == 33

abbrev pub excludes : Dialect → List ℕ → Bool
excludes d name = bytes_eq name (codes "!" ++ dialect_text d)

abbrev pub includes : Dialect → List ℕ → Bool
includes d name = bytes_eq name (dialect_text d) || bytes_eq name (codes "all")

-- no name excludes the dialect and, unless all names exclude, one is the dialect's or `all`
abbrev pub is_meant : Dialect → List (List ℕ) → Bool
is_meant d names = not (list_any (excludes d) names) && (list_all is_excluding names || list_any (includes d) names)

-- The kinds of conditions by their names, and the keys of each.

abbrev pub kinds : List (List ℕ × ConditionKind)
kinds =
    (codes "dbms", Dbms)
    ∷ (codes "tableExists", TableExists)
    ∷ (codes "viewExists", ViewExists)
    ∷ (codes "columnExists", ColumnExists)
    ∷ (codes "sequenceExists", SequenceExists)
    ∷ (codes "indexExists", IndexExists)
    ∷ (codes "uniqueConstraintExists", UniqueConstraintExists)
    ∷ (codes "foreignKeyConstraintExists", ForeignKeyConstraintExists)
    ∷ (codes "primaryKeyExists", PrimaryKeyExists)
    ∷ (codes "changeSetExecuted", ChangeSetExecuted)
    ∷ (codes "sqlCheck", SqlCheck)
    ∷ (codes "rowCount", RowCount)
    ∷ (codes "tableIsEmpty", TableIsEmpty)
    ∷ []

unfoldable pub kind_named : List ℕ → Option ConditionKind
kind_named name = lookup (bytes_eq name) kinds

-- the keys of a kind that names an object, and then where the object stands
abbrev pub of_object : Keys Condition → Taken Condition
of_object keys = map_with [] (fields (λ condition place. condition) ⊛ keys ⊛ place)

unfoldable pub dbms : Taken Condition
dbms = map_with [] (fields (λ names. condition.Dbms (names_in names)) ⊛ required (codes "type") a_text)

unfoldable pub table_exists : Taken Condition
table_exists = of_object (fields condition.TableExists ⊛ required (codes "tableName") a_name)

unfoldable pub view_exists : Taken Condition
view_exists = of_object (fields condition.ViewExists ⊛ required (codes "viewName") a_name)

unfoldable pub column_exists : Taken Condition
column_exists = of_object (fields condition.ColumnExists ⊛ required (codes "tableName") a_name ⊛ required (codes "columnName") a_name)

unfoldable pub sequence_exists : Taken Condition
sequence_exists = of_object (fields condition.SequenceExists ⊛ required (codes "sequenceName") a_name)

unfoldable pub index_exists : Taken Condition
index_exists = of_object (fields condition.IndexExists ⊛ required (codes "tableName") a_name ⊛ required (codes "indexName") a_name)

unfoldable pub unique_exists : Taken Condition
unique_exists = of_object (fields condition.UniqueConstraintExists ⊛ required (codes "tableName") a_name ⊛ required (codes "constraintName") a_name)

unfoldable pub foreign_key_exists : Taken Condition
foreign_key_exists = of_object (fields condition.ForeignKeyConstraintExists ⊛ required (codes "foreignKeyTableName") a_name ⊛ required (codes "foreignKeyName") a_name)

unfoldable pub primary_key_exists : Taken Condition
primary_key_exists = of_object (fields condition.PrimaryKeyExists ⊛ required (codes "tableName") a_name ⊛ optional (codes "primaryKeyName") a_name)

unfoldable pub changeset_executed : Taken Condition
changeset_executed = map_with [] (fields condition.ChangeSetExecuted ⊛ required (codes "id") a_text ⊛ required (codes "author") a_text ⊛ required (codes "changeLogFile") a_text)

-- a query of the dialect
abbrev pub a_query : Dialect → Taken Query
a_query d n = and_then (a_text n) (λ text. or_bad (query_in d text))

unfoldable pub sql_check : Dialect → Taken Condition
sql_check d = map_with [] (fields condition.SqlCheck ⊛ required (codes "expectedResult") a_text ⊛ required (codes "sql") (a_query d))

unfoldable pub row_count : Taken Condition
row_count = of_object (fields condition.RowCount ⊛ required (codes "tableName") a_name ⊛ required (codes "expectedRows") a_whole)

unfoldable pub table_is_empty : Taken Condition
table_is_empty = of_object (fields condition.TableIsEmpty ⊛ required (codes "tableName") a_name)

abbrev pub a_condition : Dialect → ConditionKind → Taken Condition
a_condition d Dbms = dbms
a_condition d TableExists = table_exists
a_condition d ViewExists = view_exists
a_condition d ColumnExists = column_exists
a_condition d SequenceExists = sequence_exists
a_condition d IndexExists = index_exists
a_condition d UniqueConstraintExists = unique_exists
a_condition d ForeignKeyConstraintExists = foreign_key_exists
a_condition d PrimaryKeyExists = primary_key_exists
a_condition d ChangeSetExecuted = changeset_executed
a_condition d SqlCheck = sql_check d
a_condition d RowCount = row_count
a_condition d TableIsEmpty = table_is_empty

-- the condition at a key, which is its kind's name
abbrev pub condition_at : Dialect → List ℕ → Taken Condition
condition_at d key n = elim (kind_named key) [ None ↦ Err (Unknown key) | Some kind ↦ within key (a_condition d kind n) ]

-- A tracking table's name in any case, as texts are compared.

abbrev pub is_tracking_key : List ℕ → Bool
is_tracking_key key = str_eq_ignore_ascii_case key (codes "databasechangelog") || str_eq_ignore_ascii_case key (codes "databasechangeloglock")
