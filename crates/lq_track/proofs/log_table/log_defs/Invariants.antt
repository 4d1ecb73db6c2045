use Rattle.std.proofs.Common.{◌≡◌, map, take}
use Rattle.lq_track.specs.Log.{log_column}
use Rattle.lq_track.proofs.log_table.log_defs.Given as goal

abbrev pub invariant-loop-column : goal.invariant-loop-column
invariant-loop-column l = l.defs ≡ map log_column (take l.column-index l.columns)
