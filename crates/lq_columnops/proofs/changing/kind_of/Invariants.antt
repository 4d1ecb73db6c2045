use Rattle.std.proofs.Common.{drop, ◌≡◌}
use Rattle.lq_model.specs.Kinds as kinds
use Rattle.lq_columnops.proofs.changing.kind_of.Given as goal

abbrev pub invariant-loop-column : goal.invariant-loop-column
invariant-loop-column l = kinds.kind_of l.name (drop l.column-index l.columns) ≡ kinds.kind_of l.name l.columns
