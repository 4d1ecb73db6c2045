use Rattle.std.proofs.Common.{length, map, take, ◌++◌, ◌≡◌}
use Rattle.lq_load.specs.LoadData.{insert_of}
use Rattle.lq_load.proofs.inserts.push_inserts.Given as goal

abbrev pub invariant-loop-row : goal.invariant-loop-row
invariant-loop-row l = (l.to ≡ l.initial.to ++ map (insert_of l.table l.columns) (take l.row-index l.rows)) × (l.before ≡ length l.initial.to)
