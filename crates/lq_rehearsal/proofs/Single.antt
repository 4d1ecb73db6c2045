-- A job of a store is one run, where it is no rehearsal.
use Rattle.std.proofs.Common.{refl}
use Rattle.std.specs.Prelude.{true, ◌≡◌}
use Rattle.lq_cli.specs.declared.line.Job.{Job}
use Rattle.lq_cli.specs.declared.line.Job.TheVariants.{ClearSums, Drill, Generate, History, RollbackSql, Run, Soak, UndoUnrecorded, Snapshot, UpdateCount, UpdateSql, UpdateTestingRollback, UpdateTo}
use Rattle.lq_commands.specs.Jobs.{is_on_store, is_single}

pub is_one_run : (job : Job) → is_on_store job ≡ true → (job ≡ UpdateTestingRollback → ⊥) → is_single job ≡ true
is_one_run (Run c) on other = refl
is_one_run UpdateSql on other = on
is_one_run (UpdateCount count) on other = refl
is_one_run (UpdateTo tag) on other = refl
is_one_run UpdateTestingRollback on other = absurd (other refl)
is_one_run (RollbackSql target) on other = on
is_one_run ClearSums on other = refl
is_one_run History on other = refl
is_one_run (Generate author) on other = on
is_one_run (Drill path) on other = on
is_one_run (Soak number sets) on other = on
is_one_run UndoUnrecorded on other = on
is_one_run Snapshot on other = on
