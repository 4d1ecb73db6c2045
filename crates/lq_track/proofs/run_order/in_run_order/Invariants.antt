use Rattle.std.proofs.Common.{◌≡◌}
use Rattle.lq_track.proofs.run_order.in_run_order.Given as goal

abbrev pub invariant-loop-row : goal.invariant-loop-row
invariant-loop-row l = l.ran ≡ l.yielded
