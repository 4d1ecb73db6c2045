use Rattle.std.proofs.Common.{length, ◌≡◌, ◌++◌}
use Rattle.std.specs.List.{flat_map}
use Rattle.std.specs.Prelude.{codes}
use Rattle.lq_seen.proofs.described.push_names.Given as goal
use Rattle.lq_seen.specs.View.{type_name}

abbrev pub invariant-loop-rest : goal.invariant-loop-rest
invariant-loop-rest l = l.to ++ flat_map (λ x. codes ", " ++ type_name x) l.rest ≡ l.fn.to ++ flat_map (λ x. codes ", " ++ type_name x) l.changes

abbrev pub decreases-loop-rest : goal.decreases-loop-rest
decreases-loop-rest l = length l.rest
