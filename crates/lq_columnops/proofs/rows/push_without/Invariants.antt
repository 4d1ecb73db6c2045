use Rattle.std.proofs.Common.{drop, ◌++◌, ◌≡◌}
use Rattle.lq_model.specs.Tables.{row_without}
use Rattle.lq_columnops.proofs.rows.push_without.Given as goal

abbrev pub invariant-loop-column : goal.invariant-loop-column
invariant-loop-column l = l.to ++ row_without l.name (drop l.column-index l.columns) l.left ≡ l.initial.to ++ row_without l.name l.columns l.row
