use Rattle.std.proofs.Common.{◌≡◌, drop, false, Ok}
use Rattle.lq_frames.specs.Body.{has_state}
use Rattle.lq_loading.specs.Raise.{IsAt}
use Rattle.lq_entries.specs.Load.{folded}
use Rattle.lq_loading.proofs.loading.run_entries.Given as goal

abbrev pub invariant-loop-entry : goal.invariant-loop-entry
invariant-loop-entry g l = record {
  runs : folded g.P.SqlText.dialect (drop l.entry-index l.entries) (Ok ((g.E.Executor.held l.engine).now)) ≡ folded g.P.SqlText.dialect l.entries (Ok ((g.E.Executor.held l.fn.engine).now));
  texts : has_state (drop l.entry-index l.entries) ≡ false;
  at : IsAt g.P.SqlText.dialect ((g.E.Executor.held l.engine).now) (g.E.Executor.held l.engine);
}
