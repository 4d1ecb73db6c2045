-- What a condition tells of a database, as the catalogue and the rows that track what ran: that it holds, that it does not, or the first error.
use Rattle.std.specs.List.{list_any}
use Rattle.std.specs.Option.{option_and_then}
use Rattle.std.specs.Ordering.{int_eq}
use Rattle.std.specs.Prelude.{Bool, Err, List, None, Ok, Option, Result, Some, [], if◌then◌else◌, is_some, length, not, pos, ℕ, ◌&&◌, ◌==◌, ◌∷◌}
use Rattle.lq_base.specs.Name.{is_named, is_text}
use Rattle.lq_base.specs.Number.{if_there}
use Rattle.lq_base.specs.declared.dialect.Dialect.{Dialect}
use Rattle.lq_base.specs.declared.name.Name.{Name}
use Rattle.lq_base.specs.declared.reason.Reason.{Reason}
use Rattle.lq_base.specs.declared.reason.Reason.TheVariants.{Missing, NotOne}
use Rattle.lq_base.specs.declared.tracking.Tracked.{Tracked}
use Rattle.lq_base.specs.declared.value.Value.{Value}
use Rattle.lq_cond.specs.Kinds.{is_meant}
use Rattle.lq_cond.specs.Printed.{is_printed}
use Rattle.lq_cond.specs.declared.cond.Cond.{Cond, fold-Cond}
use Rattle.lq_cond.specs.declared.cond.Cond.TheOpen.{Cond-F}
use Rattle.lq_cond.specs.declared.condition.Condition.{Condition}
use Rattle.lq_cond.specs.declared.condition.Condition.TheVariants.{ChangeSetExecuted, ColumnExists, Dbms, ForeignKeyConstraintExists, IndexExists, PrimaryKeyExists, RowCount, SequenceExists, SqlCheck, TableExists, TableIsEmpty, UniqueConstraintExists, ViewExists}
use Rattle.lq_model.specs.Catalogue.{Catalogue, at_table, column_at, foreign_key_at, index_at, key_at, sequence_of, table_of, unique_at, view_of}
use Rattle.lq_model.specs.NameSpaces.{is_tracking}
use Rattle.lq_model.specs.Views.{answer}
use Rattle.lq_model.specs.declared.caller.By.TheVariants.{User}
use Rattle.lq_model.specs.declared.constraint.Key.{Key}
use Rattle.lq_model.specs.declared.query.Answered.{Answered}
use Rattle.lq_verdicts.specs.Verdict.{all_hold, each_told, map_told, one_holds}

-- a user's table has something: the tracking tables have nothing
abbrev pub has : {A : Type 0} → Name → Option A → Bool
has t part = not (is_tracking t) && is_some part

-- a key, of that name if one is given
abbrev pub key_named : Option Name → Option Key → Option Key
key_named n key = option_and_then (λ k. if if_there (λ name. is_named name k.name) n then Some k else None) key

-- how many rows a user's table has, or that there is no such table
abbrev pub count_of : Catalogue → Name → Result ℕ Reason
count_of c t = if is_tracking t then Err Missing else elim (at_table (λ it. length it.rows) c t) [ None ↦ Err Missing | Some count ↦ Ok count ]

-- a row of a changeset
abbrev pub tracks : List ℕ → List ℕ → List ℕ → Tracked → Bool
tracks id author file row = is_text id row.id && (is_text author row.author && is_text file row.filename)

-- the value of one row of one column
abbrev pub one_value : List (List Value) → Result Value Reason
one_value ((v ∷ []) ∷ []) = Ok v
one_value _ = Err NotOne

-- whether an answer to a query is one value that prints as the text
abbrev pub is_answered : List ℕ → Result Answered Reason → Result Bool Reason
is_answered text (Ok answered) = map_told (λ v. is_printed v text) (one_value answered.rows)
is_answered text (Err reason) = Err reason

-- what a condition of each kind tells
abbrev pub tells : Dialect → Catalogue → List Tracked → Condition → Result Bool Reason
tells d c rows (Dbms names) = Ok (is_meant d names)
tells d c rows (TableExists t) = Ok (has t (table_of c t))
tells d c rows (ViewExists v) = Ok (has v (view_of c v))
tells d c rows (ColumnExists t n) = Ok (has t (column_at c t n))
tells d c rows (SequenceExists s) = Ok (has s (sequence_of c s))
tells d c rows (IndexExists t n) = Ok (has t (index_at c t n))
tells d c rows (UniqueConstraintExists t n) = Ok (has t (unique_at c t n))
tells d c rows (ForeignKeyConstraintExists t n) = Ok (has t (foreign_key_at c t n))
tells d c rows (PrimaryKeyExists t n) = Ok (has t (key_named n (key_at c t)))
tells d c rows (ChangeSetExecuted id author file) = Ok (list_any (tracks id author file) rows)
tells d c rows (SqlCheck text query) = is_answered text (answer User query c)
tells d c rows (RowCount t expected) = map_told (λ count. int_eq (pos count) expected) (count_of c t)
tells d c rows (TableIsEmpty t) = map_told (λ count. count == 0) (count_of c t)

-- all have to hold, one has to hold, none may hold: each of them is tested
abbrev pub together : (Condition → Result Bool Reason) → Cond-F (Result Bool Reason) → Result Bool Reason
together tells (Cond-F.And inside) = map_told all_hold (each_told inside)
together tells (Cond-F.Or inside) = map_told one_holds (each_told inside)
together tells (Cond-F.Not inside) = map_told not (map_told one_holds (each_told inside))
together tells (Cond-F.Is one) = tells one

abbrev pub told : Dialect → Cond → Catalogue → List Tracked → Result Bool Reason
told d cond c rows = fold-Cond (Result Bool Reason) (together (tells d c rows)) cond
