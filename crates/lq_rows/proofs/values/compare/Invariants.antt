use Rattle.std.proofs.Common.{drop, ◌≡◌}
use Rattle.lq_rows.specs.Stored.{values_cmp}
use Rattle.lq_rows.proofs.values.compare.Given as goal

abbrev pub invariant-loop-x : goal.invariant-loop-x
invariant-loop-x l = values_cmp (drop l.x-index l.a) l.left ≡ values_cmp l.a l.b
