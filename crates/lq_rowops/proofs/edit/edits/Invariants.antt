use Rattle.std.proofs.Common.{map, ◌++◌, ◌≡◌}
use Rattle.lq_rowops.specs.InsertTests.{edit}
use Rattle.lq_rowops.proofs.edit.edits.Given as goal

abbrev pub invariant-loop-row : goal.invariant-loop-row
invariant-loop-row l = l.by.items ++ map (edit l.sets l.test l.columns) l.row-iterator ≡ map (edit l.sets l.test l.columns) l.rows.now
