use Rattle.std.proofs.Common.{length}
use Rattle.lq_track.proofs.ByPlace.{Behind}
use Rattle.lq_track.proofs.run_order.by_place.Given as goal

abbrev pub invariant-loop-row : goal.invariant-loop-row
invariant-loop-row l = Behind l.count l.fn.rows l.rows l.placed.entries

abbrev pub decreases-loop-row : goal.decreases-loop-row
decreases-loop-row l = length l.rows
