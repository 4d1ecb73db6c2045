use Rattle.std.proofs.Common.{drop, ◌≡◌}
use Rattle.lq_bound.specs.Turns.{bound_in}
use Rattle.lq_bound.proofs.bound.bound_in.Given as goal

abbrev pub invariant-loop-item : goal.invariant-loop-item
invariant-loop-item l = bound_in l.sets (drop l.item-index l.turns) ≡ bound_in l.sets l.turns
