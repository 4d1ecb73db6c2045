use Rattle.std.proofs.Common.{drop, map, ◌≡◌, ◌++◌}
use Rattle.lq_turns.specs.Printed.{pending}
use Rattle.lq_plan.specs.Told.{headed}
use Rattle.lq_plan.proofs.turns.pending.Given as goal

abbrev pub invariant-loop-head : goal.invariant-loop-head
invariant-loop-head l = l.found ++ pending (map headed (drop l.head-index l.heads)) l.rows ≡ pending (map headed l.heads) l.rows
