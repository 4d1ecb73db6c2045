use Rattle.std.proofs.Common.{length, ◌≡◌, ◌<◌}
use Rattle.lq_portion.proofs.Places.{place_in}
use Rattle.lq_portion.proofs.counting.place_in.Given as goal

abbrev pub invariant-loop-rest : goal.invariant-loop-rest
invariant-loop-rest l = (0 < l.left) × (place_in l.fn.count l.fn.turns l.fn.all ≡ place_in l.left l.rest l.fn.all)

abbrev pub decreases-loop-rest : goal.decreases-loop-rest
decreases-loop-rest l = length l.rest
