use Rattle.std.proofs.Common.{map, take, ◌≡◌}
use Rattle.lq_renames.specs.Listed.{unique_at}
use Rattle.lq_renames.proofs.lists.uniques.Given as goal

abbrev pub invariant-loop-old : goal.invariant-loop-old
invariant-loop-old l = l.all ≡ map (unique_at l.own l.from l.to) (take l.old-index l.uniques)
