use Rattle.std.proofs.Common.{◌≡◌, ◌++◌, length}
use Rattle.lq_last_first.specs.LastFirst.{last_first}
use Rattle.lq_last_first.proofs.undoing.push_undoing.Given as goal

abbrev pub invariant-loop-thing : goal.invariant-loop-thing
invariant-loop-thing g l =
    l.to ++ last_first (g.B.TakesBack.steps l.by) l.rest ≡ l.initial.to ++ last_first (g.B.TakesBack.steps l.by) l.initial.rest

abbrev pub decreases-loop-thing : goal.decreases-loop-thing
decreases-loop-thing g l = length l.rest
