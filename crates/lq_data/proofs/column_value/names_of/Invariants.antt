use Rattle.std.proofs.Common.{drop, ◌++◌, ◌≡◌}
use Rattle.lq_data.specs.ColumnValue.{names_of}
use Rattle.lq_data.proofs.column_value.names_of.Given as goal

abbrev pub invariant-loop-column : goal.invariant-loop-column
invariant-loop-column l = names_of l.columns ≡ l.names ++ names_of (drop l.column-index l.columns)
