use Rattle.std.proofs.Common.{length, true, ◌≡◌, ◌++◌}
use Rattle.std.specs.List.{list_all}
use Rattle.lq_any.specs.AnyChange.{is_for}
use Rattle.lq_seen.proofs.turn.statements_of.Given as goal
use Rattle.lq_seen.specs.View.{any_meaning}
use Rattle.lq_turns.specs.Set.{statements_of}

abbrev pub invariant-loop-change : goal.invariant-loop-change
invariant-loop-change l = (l.statements ++ statements_of l.dialect any_meaning l.rest ≡ statements_of l.dialect any_meaning l.changes) × (list_all (is_for l.dialect) l.rest ≡ true)

abbrev pub decreases-loop-change : goal.decreases-loop-change
decreases-loop-change l = length l.rest
