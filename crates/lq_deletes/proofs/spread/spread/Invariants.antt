use Rattle.std.proofs.Common.{◌≡◌, ◌+◌, length, true}
use Rattle.lq_deletes.specs.Places.{are_below}
use Rattle.lq_deletes.proofs.Notes.{Spreading, unmarked}
use Rattle.lq_deletes.proofs.spread.spread.Given as goal

abbrev pub invariant-loop-at : goal.invariant-loop-at
invariant-loop-at l = Spreading l.fn.edges l.fn.marks.items l.marks.items l.work.items × (are_below (length l.fn.marks.items) l.work.items ≡ true)

abbrev pub decreases-loop-at : goal.decreases-loop-at
decreases-loop-at l = unmarked l.marks.items + length l.work.items
