use Rattle.std.proofs.Common.{◌++◌, ◌≡◌, length}
use Rattle.lq_model.specs.Tables.{columns_without}
use Rattle.lq_columnops.proofs.rows.push_columns_without.Given as goal

abbrev pub invariant-loop-column : goal.invariant-loop-column
invariant-loop-column l = l.to ++ columns_without l.name l.left ≡ l.initial.to ++ columns_without l.name l.columns

abbrev pub decreases-loop-column : goal.decreases-loop-column
decreases-loop-column l = length l.left
