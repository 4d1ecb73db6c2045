use Rattle.std.proofs.Common.{map, take, ◌≡◌}
use Rattle.lq_objectops.proofs.creating.all_names.Given as goal

abbrev pub invariant-loop-column : goal.invariant-loop-column
invariant-loop-column l = l.all ≡ map (λ c. c.name) (take l.column-index l.columns)
