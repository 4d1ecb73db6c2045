use Rattle.std.proofs.Common.{drop, ◌≡◌}
use Rattle.lq_model.specs.Kinds.{kind_in}
use Rattle.lq_rowops.proofs.setting.kind_in.Given as goal

abbrev pub invariant-loop-column : goal.invariant-loop-column
invariant-loop-column l = kind_in l.name (drop l.column-index l.columns) ≡ kind_in l.name l.columns
