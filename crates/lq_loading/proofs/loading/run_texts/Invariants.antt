use Rattle.std.proofs.Common.{◌≡◌, drop}
use Rattle.lq_loading.specs.Raise.{IsAt}
use Rattle.lq_store.specs.Journal.{run_texts}
use Rattle.lq_loading.proofs.loading.run_texts.Given as goal

abbrev pub invariant-loop-text : goal.invariant-loop-text
invariant-loop-text g l = record {
  runs : run_texts g.P.SqlText.dialect (drop l.text-index l.texts) ((g.E.Executor.held l.engine).now) ≡ run_texts g.P.SqlText.dialect l.texts ((g.E.Executor.held l.fn.engine).now);
  at : IsAt g.P.SqlText.dialect ((g.E.Executor.held l.engine).now) (g.E.Executor.held l.engine);
}
