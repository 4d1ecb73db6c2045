use Rattle.std.proofs.Common.{length, reverse, true, ◌≡◌, ◌++◌}
use Rattle.std.specs.List.{list_all}
use Rattle.lq_any.specs.AnyChange.{is_for}
use Rattle.lq_sets.proofs.beginnings.beginnings.Given as goal
use Rattle.lq_sets.specs.Counting.{begins_from}

abbrev pub invariant-loop-change : goal.invariant-loop-change
invariant-loop-change l = (begins_from l.dialect 0 l.rest ++ reverse l.beginnings ≡ begins_from l.dialect 0 l.changes) × (list_all (is_for l.dialect) l.rest ≡ true)

abbrev pub decreases-loop-change : goal.decreases-loop-change
decreases-loop-change l = length l.rest
