use Rattle.std.proofs.Common.{◌≡◌, take}
use Rattle.lq_base.proofs.duplicate.ItemsDuplicate.duplicate.Given as goal

abbrev pub invariant-loop-item : goal.invariant-loop-item
invariant-loop-item g l = l.copy ≡ take l.item-index l.item-items
