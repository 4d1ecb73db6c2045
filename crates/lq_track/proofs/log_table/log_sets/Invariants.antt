use Rattle.std.proofs.Common.{◌≡◌, map, take}
use Rattle.lq_track.specs.Log.{log_set}
use Rattle.lq_track.proofs.log_table.log_sets.Given as goal

abbrev pub invariant-loop-column : goal.invariant-loop-column
invariant-loop-column l = l.sets ≡ map (log_set l.row) (take l.column-index l.columns)
