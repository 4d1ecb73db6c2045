use Rattle.std.proofs.Common.{Some, map, ◌++◌, ◌≡◌}
use Rattle.lq_model.specs.Tables.{row_without}
use Rattle.lq_columnops.proofs.rows.all_less.Given as goal

abbrev pub invariant-loop-row : goal.invariant-loop-row
invariant-loop-row l = map (λ r. Some (row_without l.name l.columns r)) l.rows.now ≡ l.by.items ++ map (λ r. Some (row_without l.name l.columns r)) l.row-iterator
