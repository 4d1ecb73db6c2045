use Rattle.std.proofs.Common.{◌≡◌, map, take}
use Rattle.lq_track.specs.Log.{log_name}
use Rattle.lq_track.proofs.log_table.log_names.Given as goal

abbrev pub invariant-loop-column : goal.invariant-loop-column
invariant-loop-column l = l.names ≡ map log_name (take l.column-index l.columns)
