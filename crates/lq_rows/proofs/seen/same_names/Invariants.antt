use Rattle.std.proofs.Common.{◌≡◌, take, length}
use Rattle.lq_rows.proofs.seen.same_names.Given as goal

abbrev pub invariant-loop-at : goal.invariant-loop-at
invariant-loop-at l = (length l.a ≡ length l.b) × (take l.at l.a ≡ take l.at l.b)
