use Rattle.std.proofs.Common.{map, take, ◌≡◌}
use Rattle.lq_model.specs.Tables.{name_at}
use Rattle.lq_renames.proofs.lists.names_at.Given as goal

abbrev pub invariant-loop-name : goal.invariant-loop-name
invariant-loop-name l = l.all ≡ map (name_at l.own l.from l.to) (take l.name-index l.names)
