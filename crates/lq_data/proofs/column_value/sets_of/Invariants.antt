use Rattle.std.proofs.Common.{drop, ◌++◌, ◌≡◌}
use Rattle.lq_data.specs.ColumnValue.{sets_of}
use Rattle.lq_data.proofs.column_value.sets_of.Given as goal

abbrev pub invariant-loop-column : goal.invariant-loop-column
invariant-loop-column l = sets_of l.columns ≡ l.sets ++ sets_of (drop l.column-index l.columns)
