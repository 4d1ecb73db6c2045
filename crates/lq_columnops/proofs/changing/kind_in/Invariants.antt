use Rattle.std.proofs.Common.{drop, ◌≡◌}
use Rattle.lq_model.specs.Kinds as kinds
use Rattle.lq_columnops.proofs.changing.kind_in.Given as goal

abbrev pub invariant-loop-column : goal.invariant-loop-column
invariant-loop-column l = kinds.kind_in l.name (drop l.column-index l.columns) ≡ kinds.kind_in l.name l.columns
