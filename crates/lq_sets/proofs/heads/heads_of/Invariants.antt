use Rattle.std.proofs.Common.{length, map, ◌≡◌, ◌++◌}
use Rattle.lq_plan.specs.Told.{headed, bare}
use Rattle.lq_sets.proofs.heads.heads_of.Given as goal
use Rattle.lq_seen.specs.View.{views}

abbrev pub invariant-loop-rest : goal.invariant-loop-rest
invariant-loop-rest l = map headed l.heads ++ map bare (views l.options l.rest) ≡ map bare (views l.options l.sets)

abbrev pub decreases-loop-rest : goal.decreases-loop-rest
decreases-loop-rest l = length l.rest
