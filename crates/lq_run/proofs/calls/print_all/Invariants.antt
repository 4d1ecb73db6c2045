use Rattle.std.proofs.Common.{drop, ◌++◌, ◌≡◌}
use Rattle.lq_run.specs.Does.{AllRead, AllWritable}
use Rattle.lq_run.specs.Stands.{texts_of}
use Rattle.lq_run.proofs.calls.print_all.Given as goal

abbrev pub invariant-loop-deed : goal.invariant-loop-deed
invariant-loop-deed g l = record {
  texts : l.texts ++ texts_of l.dialect (drop l.deed-index l.deeds) ≡ l.initial.texts ++ texts_of l.dialect l.deeds;
  writable : AllWritable l.dialect (drop l.deed-index l.deeds);
  read : AllRead l.dialect (drop l.deed-index l.deeds) → AllRead l.dialect l.deeds;
}
