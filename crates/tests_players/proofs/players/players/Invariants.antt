use Rattle.std.specs.List.{All}
use Rattle.lq_players.specs.AnyCommand.{IsUnstarted}
use Rattle.tests_players.proofs.players.players.Given as goal

abbrev pub invariant-loop-line : goal.invariant-loop-line
invariant-loop-line g l = record {
  next : (goal.iterator-loop-line g).can_next l.line-iterator;
  finite : (goal.iterator-loop-line g).is_finite l.line-iterator;
  unstarted : All (IsUnstarted g.P.SqlText.dialect) l.players.items;
}
