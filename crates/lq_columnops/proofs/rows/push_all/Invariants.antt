use Rattle.std.proofs.Common.{take, ◌++◌, ◌≡◌}
use Rattle.lq_columnops.proofs.rows.push_all.Given as goal

abbrev pub invariant-loop-item : goal.invariant-loop-item
invariant-loop-item g l = l.to ≡ l.fn.to ++ take l.item-index l.items
