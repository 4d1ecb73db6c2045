use Rattle.std.proofs.Common.{length, ◌≡◌}
use Rattle.lq_model.specs.Rows.{cell}
use Rattle.lq_rowops.proofs.row.cell.Given as goal

abbrev pub invariant-loop-names : goal.invariant-loop-names
invariant-loop-names l = cell l.next l.names l.given l.column ≡ cell l.next l.initial.names l.initial.given l.column

abbrev pub decreases-loop-names : goal.decreases-loop-names
decreases-loop-names l = length l.names
