use Rattle.std.proofs.Common.{map, take, ◌≡◌}
use Rattle.lq_renames.specs.Listed.{index_at}
use Rattle.lq_renames.proofs.lists.indexes.Given as goal

abbrev pub invariant-loop-old : goal.invariant-loop-old
invariant-loop-old l = l.all ≡ map (index_at l.own l.from l.to) (take l.old-index l.indexes)
