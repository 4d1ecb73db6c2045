use Rattle.std.proofs.Common.{map, take, ◌≡◌}
use Rattle.lq_model.specs.Tables.{retarget}
use Rattle.lq_renames.proofs.aims.retarget_each.Given as goal

abbrev pub invariant-loop-key : goal.invariant-loop-key
invariant-loop-key l = l.all ≡ map (retarget l.from l.to) (take l.key-index l.keys)
