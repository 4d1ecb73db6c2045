use Rattle.std.specs.Prelude.{length, reverse, ◌++◌, ◌≡◌}
use Rattle.lq_laying.specs.Laying.{marked_calls}
use Rattle.lq_laying.proofs.turn.push_all.Given as goal

abbrev pub invariant-loop-alloc : goal.invariant-loop-alloc
invariant-loop-alloc l = marked_calls l.marking l.statements ++ reverse l.calls ≡ marked_calls l.marking l.fn.statements ++ reverse l.fn.calls

abbrev pub decreases-loop-alloc : goal.decreases-loop-alloc
decreases-loop-alloc l = length l.statements
