use Rattle.std.proofs.Common.{drop}
use Rattle.lq_shapes.proofs.KindLemmas.{Finds}
use Rattle.lq_shapes.proofs.columns.kinds_of.Given as goal

abbrev pub invariant-loop-column : goal.invariant-loop-column
invariant-loop-column l = Finds l.columns l.kinds (drop l.column-index l.columns)
