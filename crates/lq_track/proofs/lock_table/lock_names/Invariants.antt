use Rattle.std.proofs.Common.{◌≡◌, map, take}
use Rattle.lq_track.specs.Lock.{lock_name}
use Rattle.lq_track.proofs.lock_table.lock_names.Given as goal

abbrev pub invariant-loop-column : goal.invariant-loop-column
invariant-loop-column l = l.names ≡ map lock_name (take l.column-index l.columns)
