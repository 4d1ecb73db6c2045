use Rattle.std.proofs.Common.{drop, map, ◌≡◌, ◌++◌}
use Rattle.lq_plan.specs.Told.{headed, work, work_from}
use Rattle.lq_plan.proofs.turns.work.Given as goal

abbrev pub invariant-loop-head : goal.invariant-loop-head
invariant-loop-head l = (l.items ++ work_from l.head-index (map headed (drop l.head-index l.heads)) l.rows ≡ work (map headed l.heads) l.rows) × (l.place ≡ l.head-index)
