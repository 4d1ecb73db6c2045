-- What a query reads of one row of a table, and of all of them.
use Rattle.std.specs.Option.{option_and_then, option_map_or}
use Rattle.std.specs.Prelude.{Bool, List, None, Option, Result, Some, [], codes, false, if◌then◌else◌, is_none, not, unwrap_or, ℕ, ◌||◌, ◌∷◌}
use Rattle.std.specs.Str.{str_eq_ignore_ascii_case}
use Rattle.lq_base.specs.declared.reason.Reason.{Reason}
use Rattle.lq_base.specs.declared.reason.Reason.TheVariants as reason
use Rattle.lq_base.specs.declared.value.Value.{Value}
use Rattle.lq_model.specs.Catalogue.{picked}
use Rattle.lq_model.specs.Comparison.{compares_wrongly, kinds_agree}
use Rattle.lq_model.specs.NameSpaces.{is_reserved}
use Rattle.lq_model.specs.Plan.{unless}
use Rattle.lq_model.specs.Truth.{names_in, takes, test_names, truth}
use Rattle.lq_model.specs.Views.{Source, answer_from, lacks_column, listed, no_source}
use Rattle.lq_model.specs.declared.caller.By.{By}
use Rattle.lq_model.specs.declared.column.Column.{Column}
use Rattle.lq_model.specs.declared.query.Answered.{Answered}
use Rattle.lq_model.specs.declared.query.Query.{Query}
use Rattle.lq_model.specs.declared.query.Wanted.{Wanted}
use Rattle.lq_model.specs.declared.query.Wanted.TheVariants as wanted
use Rattle.lq_model.specs.declared.test.Test.{Test}
use Rattle.lq_query.specs.declared.source.Shown.{Shown}

-- what is shown of a row: all of it, or a view's columns of what its test takes
abbrev pub seen : Option Shown → List Column → List Value → Option (List Value)
seen None cs row = Some row
seen (Some v) cs row = if takes v.test.now cs row then Some (picked cs v.names.now row) else None

-- the values that a query lists
abbrev pub chosen : Wanted → List Column → List Value → List Value
chosen (wanted.Columns ns) cs row = picked cs ns row
chosen _ cs row = row

abbrev pub taken : Query → List Column → List Value → Option (List Value)
taken q cs row = if takes q.test cs row then Some (chosen q.wanted cs row) else None

-- what a query gives of a row of the table, where the columns cs are shown of it
abbrev pub given : Option Shown → List Column → Query → List Column → List Value → Option (List Value)
given view table q cs row = option_and_then (taken q cs) (seen view table row)

abbrev pub is_counted : Option Shown → List Column → Query → List Column → List Value → Bool
is_counted view table q cs row = option_map_or (takes q.test cs) (seen view table row) false

-- what may stand against a query where these columns are shown, in order
abbrev pub reasons_against : By → Query → List Column → List (Bool × Reason)
reasons_against by q cs =
    (is_reserved by (q.table ∷ []), reason.Reserved)
    ∷ (lacks_column cs (listed q.wanted cs) || lacks_column cs (names_in q.test), reason.Missing)
    ∷ (compares_wrongly cs q.test, reason.WrongKind) ∷ []

unfoldable pub against : By → Query → List Column → Result (Unit {0}) Reason
against by q cs = unless (reasons_against by q cs) tt

-- the answer of what stands at the name
unfoldable pub answered : By → Query → Option Source → Result Answered Reason
answered by q o =
    let s = unwrap_or o no_source in
    unless ((is_reserved by (q.table ∷ []), reason.Reserved)
    ∷ (is_none o || (lacks_column s.columns (listed q.wanted s.columns) || lacks_column s.columns (names_in q.test)), reason.Missing)
    ∷ (compares_wrongly s.columns q.test, reason.WrongKind) ∷ []) (answer_from s q)

-- What a row is tested for.

-- the value of a test on a row: Missing where it names a column that is not there, WrongKind where it compares what may not be compared
abbrev pub tested : Test → List Column → List Value → Result (Option Bool) Reason
tested test cs row = unless ((lacks_column cs (test_names test), reason.Missing) ∷ (not (kinds_agree cs test), reason.WrongKind) ∷ []) (truth cs row test)

-- A tracking table's name in any case, as texts are compared.

abbrev pub is_tracking_key : List ℕ → Bool
is_tracking_key key = str_eq_ignore_ascii_case key (codes "databasechangelog") || str_eq_ignore_ascii_case key (codes "databasechangeloglock")
