use Rattle.std.proofs.Common.{length}
use Rattle.std.specs.Prelude.{true, ◌≡◌}
use Rattle.lq_players.proofs.RowsApart.{Passed}
use Rattle.lq_players.specs.AnyCommand.{stand_behind}
use Rattle.lq_players.proofs.row_order.are_apart.Given as goal

abbrev pub invariant-loop-row : goal.invariant-loop-row
invariant-loop-row l = Passed l.rows l.rest l.last × (stand_behind 0 l.rows ≡ true → stand_behind l.last l.rest ≡ true)

abbrev pub decreases-loop-row : goal.decreases-loop-row
decreases-loop-row l = length l.rest
