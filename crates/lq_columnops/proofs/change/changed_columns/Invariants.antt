use Rattle.std.proofs.Common.{map, take, ◌≡◌}
use Rattle.lq_model.specs.Tables.{changed_at}
use Rattle.lq_columnops.specs.OnColumn.{applied}
use Rattle.lq_columnops.proofs.change.changed_columns.Given as goal

abbrev pub invariant-loop-column : goal.invariant-loop-column
invariant-loop-column l = l.all ≡ map (changed_at l.name (applied l.change)) (take l.column-index l.columns)
