use Rattle.std.proofs.Common.{drop, ◌++◌, ◌≡◌}
use Rattle.lq_deletes.specs.Places.{numbered}
use Rattle.lq_deletes.proofs.spread.marked.Given as goal

abbrev pub invariant-loop-at : goal.invariant-loop-at
invariant-loop-at l = l.work.items ++ numbered (λ mark. mark) l.at (drop l.at l.marks) ≡ numbered (λ mark. mark) 0 l.marks
