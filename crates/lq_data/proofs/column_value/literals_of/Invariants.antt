use Rattle.std.proofs.Common.{drop, ◌++◌, ◌≡◌}
use Rattle.lq_data.specs.ColumnValue.{literals_of}
use Rattle.lq_data.proofs.column_value.literals_of.Given as goal

abbrev pub invariant-loop-column : goal.invariant-loop-column
invariant-loop-column l = literals_of l.columns ≡ l.literals ++ literals_of (drop l.column-index l.columns)
