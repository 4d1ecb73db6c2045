use Rattle.std.proofs.Common.{◌≡◌, length}
use Rattle.lq_track.specs.Database.{are_made}
use Rattle.lq_track.proofs.stored.are_made.Given as goal

abbrev pub invariant-loop-def : goal.invariant-loop-def
invariant-loop-def l = are_made l.defs l.columns ≡ are_made l.fn.defs l.fn.columns

abbrev pub decreases-loop-def : goal.decreases-loop-def
decreases-loop-def l = length l.defs
