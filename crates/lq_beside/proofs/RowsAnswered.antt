-- The table of rows is asked for one changeset's.
use Rattle.std.proofs.Common.{ap, ◌∙◌}
use Rattle.std.specs.List.{filter, list_all}
use Rattle.std.specs.Option.{option_and_then, option_map}
use Rattle.std.specs.Prelude.{Bool, List, None, Ok, Option, Some, [], cond, false, is_none, map, nat_lt, refl, true, unwrap_or, ℕ, ◌∷◌, ◌≡◌, ◌||◌}
use Rattle.lq_base.specs.declared.dialect.Dialect.{Dialect}
use Rattle.lq_base.specs.declared.identity.Identity.{Identity}
use Rattle.lq_base.specs.declared.reason.Reason.TheVariants.{Missing, Reserved, WrongKind}
use Rattle.lq_base.specs.declared.tracking.Tracked.{Tracked}
use Rattle.lq_model.proofs.Maps.{some_same}
use Rattle.lq_model.specs.Catalogue.{Catalogue, Table, table_of}
use Rattle.lq_model.specs.Comparison.{compares_wrongly}
use Rattle.lq_model.specs.Views.{Source, answer, answer_from, lacks_column, no_source, source_of}
use Rattle.lq_model.specs.Plan.{unless}
use Rattle.lq_model.specs.Truth.{names_in, takes}
use Rattle.lq_model.specs.declared.caller.By.TheVariants.{Program}
use Rattle.lq_model.specs.declared.column.Column.{Column}
use Rattle.lq_track.proofs.AllRows.{lacks_none}
use Rattle.lq_track.specs.Statements.{answered_rows, rows_asked, rows_query}
use Rattle.lq_track.specs.Database.{Database, in_run_order, rows_from, rows_in}
use Rattle.lq_track.specs.Log.{log_table}
use Rattle.lq_turns.specs.Deed.{is_of, theirs}
use Rattle.lq_turns.specs.Schedule.{StandsFor}
use Rattle.lq_beside.specs.Beside.{RowsAnswered}
use Rattle.lq_beside.proofs.AsMade.{log_at, log_columns, log_row, log_rows}
use Rattle.lq_beside.proofs.RowDeeds.{compared, names_there, takes_it, test}
use Rattle.lq_beside.proofs.RowValues.{rows_back}
use Rattle.lq_beside.proofs.RunOrder.{filter_all, filter_ran}
use Rattle.lq_beside.proofs.Stands.{log_made_so, rows_read}

module _ (of : Identity) where
  -- the test takes the rows of the identity
  taken : (rows : List Tracked) → filter (takes (test of) log_columns) (log_rows rows) ≡ log_rows (theirs of rows)
  taken [] = refl
  taken (r ∷ rows) = ap (λ b. cond b (log_row r ∷ filter (takes (test of) log_columns) (log_rows rows)) (filter (takes (test of) log_columns) (log_rows rows))) (takes_it of r) ∙ at (is_of of r) (taken rows) where
    at : (b : Bool) → filter (takes (test of) log_columns) (log_rows rows) ≡ log_rows (theirs of rows) → cond b (log_row r ∷ filter (takes (test of) log_columns) (log_rows rows)) (filter (takes (test of) log_columns) (log_rows rows)) ≡ log_rows (cond b (r ∷ theirs of rows) (theirs of rows))
    at true more = ap (λ vs. log_row r ∷ vs) more
    at false more = more

  -- they are what is answered
  abbrev log_source : List Tracked → Source
  log_source rows = record { columns = log_columns; rows = log_rows rows }

  not_refused : (next : ℕ) (rows : List Tracked) (o : Option Source) → o ≡ Some (log_source rows)
      → unless ((false, Reserved)
      ∷ (is_none o || (lacks_column (unwrap_or o no_source).columns (map (λ (c : Column). c.name) (unwrap_or o no_source).columns) || lacks_column (unwrap_or o no_source).columns (names_in (test of))), Missing)
      ∷ (compares_wrongly (unwrap_or o no_source).columns (test of), WrongKind) ∷ []) (answer_from (unwrap_or o no_source) (rows_query of)) ≡ Ok (answer_from (log_source rows) (rows_query of))
  not_refused next rows o is = rw (is, lacks_none [] log_columns, names_there of next (log_rows rows), compared of) refl

  sourced : (c : Catalogue) (it : Table) → table_of c log_table ≡ Some it → source_of c log_table ≡ Some (record { columns = it.columns; rows = it.rows })
  sourced c it there = rw (there, source_of) refl

  answered : (c : Catalogue) (next : ℕ) (rows : List Tracked) → table_of c log_table ≡ Some (log_at next (log_rows rows)) → answered_rows (answer Program (rows_query of) c) ≡ Some (log_rows (theirs of rows))
  answered c next rows there = ap answered_rows (not_refused next rows (source_of c log_table) (sourced c (log_at next (log_rows rows)) there)) ∙ ap (λ vs. Some vs) (taken rows)

  read : (rows : List Tracked) → list_all (λ r. nat_lt 0 r.order) rows ≡ true → option_map in_run_order (rows_in (log_rows (theirs of rows))) ≡ Some (theirs of (in_run_order rows))
  read rows first = ap (option_map in_run_order) (rows_back (theirs of rows) (filter_all (is_of of) (λ r. nat_lt 0 r.order) rows first)) ∙ ap (λ rs. Some rs) (filter_ran (is_of of) rows)

  where_made : (d : Dialect) (c : Catalogue) (database : Database) → StandsFor d c database → (log : Option Table) → table_of c log_table ≡ log → rows_from log ≡ Some database.rows → rows_asked of c ≡ Some (theirs of database.rows)
  where_made d c database stands None is none = rw (is) (ap (λ rs. Some (theirs of rs)) (some_same none))
  where_made d c database stands (Some it) is from = let (stored, made, ran, first) = log_made_so it database.rows from in
      rw (is) (ap (λ o. option_map in_run_order (option_and_then rows_in o)) (answered c it.next stored (is ∙ ap (λ (t : Table). Some t) made)) ∙ read stored first ∙ ap (λ rs. Some (theirs of rs)) ran)

pub rows_answered : RowsAnswered
rows_answered of d c database stands = where_made of d c database stands (table_of c log_table) refl (rows_read d c database stands)
