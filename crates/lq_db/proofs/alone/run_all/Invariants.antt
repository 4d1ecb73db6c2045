use Rattle.std.proofs.Common.{◌≡◌, drop}
use Rattle.lq_db.specs.Alone.{IsRunning, work}
use Rattle.lq_db.specs.Db.{Stays}
use Rattle.lq_store.specs.Work.{outcome_all}
use Rattle.lq_db.proofs.alone.run_all.Given as goal

abbrev pub invariant-loop-text : goal.invariant-loop-text
invariant-loop-text g l = record {
  rest : outcome_all l.dialect (drop l.text-index l.texts) (work (g.E.Executor.held l.engine) l.running) ≡ outcome_all l.dialect l.texts (work (g.E.Executor.held l.fn.engine) l.fn.running);
  stays : Stays (g.E.Executor.held l.fn.engine) (g.E.Executor.held l.engine);
  running : IsRunning l.dialect (g.E.Executor.held l.engine) l.running;
}
