use Rattle.std.proofs.Common.{◌≡◌}
use Rattle.tests_engine.proofs.tried.run_all.Given as goal

abbrev pub invariant-loop-text : goal.invariant-loop-text
invariant-loop-text g l = record {
  next : (goal.iterator-loop-text g).can_next l.text-iterator;
  finite : (goal.iterator-loop-text g).is_finite l.text-iterator;
  dialect : (g.E.Executor.held l.engine).dialect ≡ g.P.SqlText.dialect;
}
