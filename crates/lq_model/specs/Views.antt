-- Queries, views and sequences.
use Rattle.std.specs.List.{filter, flat_map, list_any}
use Rattle.std.specs.Option.{option_map, unwrap_or}
use Rattle.std.specs.Prelude.{Bool, IsOk, List, None, Option, Result, Some, [], false, is_none, is_some, length, map, not, pos, true, ℤ, ◌&&◌, ◌||◌, ◌∷◌, ◌≡◌}
use Rattle.lq_base.specs.Name.{is_named}
use Rattle.lq_base.specs.declared.dialect.Dialect.{Dialect}
use Rattle.lq_base.specs.declared.name.Name.{Name}
use Rattle.lq_base.specs.declared.reason.Reason.{Reason}
use Rattle.lq_base.specs.declared.reason.Reason.TheVariants as reason
use Rattle.lq_base.specs.declared.value.Value.{Value}
use Rattle.lq_base.specs.declared.value.Value.TheVariants as value
use Rattle.lq_model.specs.Catalogue.{Catalogue, Table, View, column_missing, is_in, picked, repeats, sequence_of, table_of, the_table, view_of, with_sequence, with_view, without_sequence, without_view}
use Rattle.lq_model.specs.Comparison.{compares_wrongly}
use Rattle.lq_model.specs.NameSpaces.{is_reserved, is_taken, takes_lock_key}
use Rattle.lq_model.specs.Plan.{Plan, unless, unopposed}
use Rattle.lq_model.specs.Sound.{IsSound}
use Rattle.lq_model.specs.Truth.{names_in, takes}
use Rattle.lq_model.specs.declared.caller.By.{By}
use Rattle.lq_model.specs.declared.caller.By.TheVariants.{Program}
use Rattle.lq_model.specs.declared.column.Column.{Column}
use Rattle.lq_model.specs.declared.query.Answered.{Answered}
use Rattle.lq_model.specs.declared.query.Query.{Query}
use Rattle.lq_model.specs.declared.query.Wanted.{Wanted}
use Rattle.lq_model.specs.declared.query.Wanted.TheVariants as wanted

-- Sequences.

abbrev pub create_sequence : By → Dialect → Name → ℤ → ℤ → Catalogue → Plan
create_sequence by d s start step c = record (unopposed c) {
  reserved = is_reserved by (s ∷ []);
  exists = is_taken d s c || takes_lock_key by d (s ∷ []);
  result = with_sequence c s (record { start = start; step = step });
}

abbrev pub drop_sequence : By → Dialect → Name → Catalogue → Plan
drop_sequence by d s c = record (unopposed c) {
  reserved = is_reserved by (s ∷ []);
  missing = is_none (sequence_of c s);
  result = without_sequence c s;
}

abbrev pub sequence_renamed : Name → Name → Catalogue → Catalogue
sequence_renamed a b c = elim (sequence_of c a) [ None ↦ c | Some s ↦ with_sequence (without_sequence c a) b s ]

abbrev pub rename_sequence : By → Dialect → Name → Name → Catalogue → Plan
rename_sequence by d s to c = record (unopposed c) {
  reserved = is_reserved by (s ∷ to ∷ []);
  missing = is_none (sequence_of c s);
  exists = is_taken d to c || takes_lock_key by d (s ∷ to ∷ []);
  result = sequence_renamed s to c;
}

-- What a query is answered.

-- what can be asked: the columns and rows of a table or a view
pub record Source : Type 0 where
  pub columns : List Column
  pub rows : List (List Value)

-- the columns of these names
abbrev pub columns_at : List Name → List Column → List Column
columns_at ns cs = flat_map (λ n. filter (λ c. is_named n c.name) cs) ns

-- a view shows its columns of the rows that its test takes
abbrev pub shown_by : Catalogue → View → Source
shown_by c v =
    let it = the_table c v.query.table in
    record {
      columns = columns_at v.columns it.columns;
      rows = map (picked it.columns v.columns) (filter (takes v.query.test it.columns) it.rows);
    }

abbrev pub source_of : Catalogue → Name → Option Source
source_of c n = elim (table_of c n) [
  | Some it ↦ Some (record { columns = it.columns; rows = it.rows })
  | None ↦ option_map (shown_by c) (view_of c n)
]

abbrev pub no_source : Source
no_source = record { columns = []; rows = [] }

-- the columns that a query lists: `*` lists all in order
abbrev pub listed : Wanted → List Column → List Name
listed wanted.All cs = map (λ c. c.name) cs
listed wanted.Count cs = []
listed (wanted.Columns ns) cs = ns

abbrev pub lacks_column : List Column → List Name → Bool
lacks_column cs ns = list_any (λ n. not (is_in n (map (λ c. c.name) cs))) ns

-- the count of the rows that are taken, or their values in the columns that are listed
abbrev pub answer_from : Source → Query → Answered
answer_from s q =
    let taken = filter (takes q.test s.columns) s.rows in
    elim q.wanted [
      | wanted.All ↦ record { columns = length s.columns; rows = taken }
      | wanted.Count ↦ record { columns = 1; rows = (value.Int (pos (length taken)) ∷ []) ∷ [] }
      | wanted.Columns ns ↦ record { columns = length ns; rows = map (picked s.columns ns) taken }
    ]

-- the answer, or the first reason against it
abbrev pub answer : By → Query → Catalogue → Result Answered Reason
answer by q c =
    let s = unwrap_or (source_of c q.table) no_source in
    unless ((is_reserved by (q.table ∷ []), reason.Reserved)
    ∷ (is_none (source_of c q.table) || (lacks_column s.columns (listed q.wanted s.columns) || lacks_column s.columns (names_in q.test)), reason.Missing)
    ∷ (compares_wrongly s.columns q.test, reason.WrongKind) ∷ []) (answer_from s q)

-- Views.

abbrev pub is_count : Wanted → Bool
is_count wanted.Count = true
is_count _ = false

-- the view keeps its columns, `*` being replaced by all of its table
abbrev pub new_view : Query → Table → View
new_view q it = record {
  query = record q { wanted = wanted.Columns (listed q.wanted it.columns) };
  columns = listed q.wanted it.columns;
}

-- a view names a table, and no view; over a view that it replaces its name is not made
abbrev pub create_view : By → Dialect → Name → Query → Bool → Catalogue → Plan
create_view by d v q replace c =
    let it = the_table c q.table in
    let names = listed q.wanted it.columns in
    record (unopposed c) {
      reserved = is_reserved by (v ∷ q.table ∷ []);
      missing = is_none (table_of c q.table) || (column_missing it names || column_missing it (names_in q.test));
      exists = (not (replace && is_some (view_of c v)) && (is_taken d v c || takes_lock_key by d (v ∷ []))) || repeats names;
      wrong = is_count q.wanted || compares_wrongly it.columns q.test;
      result = with_view c v (new_view q it);
    }

abbrev pub drop_view : By → Dialect → Name → Catalogue → Plan
drop_view by d v c = record (unopposed c) {
  reserved = is_reserved by (v ∷ []);
  missing = is_none (view_of c v);
  result = without_view c v;
}

-- That what a view asks can be answered.

-- on a sound catalogue the query of each view, asked as the program's, is answered with rows
abbrev pub ViewsAnswer : Type 0
ViewsAnswer = (d : Dialect) (c : Catalogue) (n : Name) (v : View) → IsSound d c → view_of c n ≡ Some v → IsOk (answer Program v.query c)
