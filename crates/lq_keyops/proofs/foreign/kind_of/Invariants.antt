use Rattle.std.proofs.Common.{drop, ◌≡◌}
use Rattle.lq_model.specs.Kinds.{kind_of}
use Rattle.lq_keyops.proofs.foreign.kind_of.Given as goal

abbrev pub invariant-loop-column : goal.invariant-loop-column
invariant-loop-column l = kind_of l.name (drop l.column-index l.columns) ≡ kind_of l.name l.columns
