use Rattle.std.proofs.Common.{rules, tests, ◌<◌}
use Rattle.lq_db.proofs.Alones.{rewound_step}
use Rattle.lq_db.proofs.running.rewind.Goals as goal

pub loop-left-preserved : goal.loop-left-preserved
loop-left-preserved g c =
    let tested = c.loop-left-test.true in
    let some : 0 < c.loop-left.left = search (rules, tests) in
    rewound_step c.loop-left.left (g.E.Executor.held c.loop-left.engine) (g.E.Executor.held c.undo_last.new.self) _ some c.undo_last.ensures c.loop-left.invariant
