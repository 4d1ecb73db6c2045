use Rattle.std.proofs.Common.{length, ◌≡◌}
use Rattle.lq_track.specs.Database.{in_run_order}
use Rattle.lq_track.proofs.run_order.are_in_order.Given as goal

abbrev pub invariant-loop-row : goal.invariant-loop-row
invariant-loop-row l = in_run_order l.rest ≡ l.rest → in_run_order l.rows ≡ l.rows

abbrev pub decreases-loop-row : goal.decreases-loop-row
decreases-loop-row l = length l.rest
