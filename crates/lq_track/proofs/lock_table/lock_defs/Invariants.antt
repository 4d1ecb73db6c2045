use Rattle.std.proofs.Common.{◌≡◌, map, take}
use Rattle.lq_track.specs.Lock.{lock_column}
use Rattle.lq_track.proofs.lock_table.lock_defs.Given as goal

abbrev pub invariant-loop-column : goal.invariant-loop-column
invariant-loop-column l = l.defs ≡ map lock_column (take l.column-index l.columns)
