use Rattle.std.proofs.Common.{map, take, ◌≡◌}
use Rattle.lq_renames.specs.Listed.{column_at}
use Rattle.lq_renames.proofs.lists.columns.Given as goal

abbrev pub invariant-loop-old : goal.invariant-loop-old
invariant-loop-old l = l.all ≡ map (column_at l.own l.from l.to) (take l.old-index l.columns)
