use Rattle.std.proofs.Common.{◌≡◌}
use Rattle.lq_db.specs.Alone.{rewound}
use Rattle.lq_db.proofs.running.rewind.Given as goal

abbrev pub invariant-loop-left : goal.invariant-loop-left
invariant-loop-left g l = rewound l.left (g.E.Executor.held l.engine) ≡ rewound l.fn.runs (g.E.Executor.held l.fn.engine)

abbrev pub decreases-loop-left : goal.decreases-loop-left
decreases-loop-left g l = l.left
