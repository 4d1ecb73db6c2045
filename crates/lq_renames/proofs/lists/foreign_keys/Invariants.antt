use Rattle.std.proofs.Common.{map, take, ◌≡◌}
use Rattle.lq_renames.specs.Listed.{foreign_at}
use Rattle.lq_renames.proofs.lists.foreign_keys.Given as goal

abbrev pub invariant-loop-key : goal.invariant-loop-key
invariant-loop-key l = l.all ≡ map (foreign_at l.table l.own l.from l.to) (take l.key-index l.keys)
