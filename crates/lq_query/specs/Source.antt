-- What can be asked at a name: a table's columns and rows, or what a view shows of them.
use Rattle.std.specs.List.{filter}
use Rattle.std.specs.Prelude.{List, None, Option, Some, map, ◌≡◌}
use Rattle.lq_base.specs.declared.value.Value.{Value}
use Rattle.lq_model.specs.Catalogue.{picked}
use Rattle.lq_model.specs.Truth.{takes}
use Rattle.lq_model.specs.Views as spec
use Rattle.lq_model.specs.declared.column.Column.{Column}
use Rattle.lq_model.specs.declared.test.Test.{Test}
use Rattle.lq_query.specs.declared.source.Shown.{Shown}
use Rattle.lq_query.specs.declared.source.Source.{Source}

abbrev pub shown_columns : Option Shown → List Column → List Column
shown_columns None cs = cs
shown_columns (Some v) cs = spec.columns_at v.names.now cs

abbrev pub shown_rows : Option Shown → List Column → List (List Value) → List (List Value)
shown_rows None cs rows = rows
shown_rows (Some v) cs rows = map (picked cs v.names.now) (filter (takes v.test.now cs) rows)

abbrev pub source_meant : Source → spec.Source
source_meant s = record { columns = shown_columns s.view s.columns.now; rows = shown_rows s.view s.columns.now s.rows }

-- of some rows a test takes what it takes of all
abbrev pub TakesAlike : Option Test → List Column → List (List Value) → List (List Value) → Type 0
TakesAlike test cs some all = filter (takes test cs) some ≡ filter (takes test cs) all
