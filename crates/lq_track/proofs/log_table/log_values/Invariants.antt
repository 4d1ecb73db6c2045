use Rattle.std.proofs.Common.{◌≡◌, map, take}
use Rattle.lq_track.specs.Log.{log_value}
use Rattle.lq_track.proofs.log_table.log_values.Given as goal

abbrev pub invariant-loop-column : goal.invariant-loop-column
invariant-loop-column l = l.values ≡ map (log_value l.row) (take l.column-index l.columns)
