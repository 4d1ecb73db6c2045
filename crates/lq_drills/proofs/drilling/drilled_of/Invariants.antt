use Rattle.std.specs.Prelude.{drop, length, ◌+◌, ◌++◌, ◌≡◌}
use Rattle.lq_drills.proofs.drilling.drilled_of.Given as goal
use Rattle.lq_drills.specs.Drilled.{drilled}
use Rattle.lq_drills.specs.Players.{answers_in}

abbrev pub invariant-loop-player : goal.invariant-loop-player
invariant-loop-player l = record {
  count : length l.commands + l.player-index ≡ length l.players;
  done : drilled l.fn.commands (answers_in l.players) ≡ l.all ++ drilled l.commands (answers_in (drop l.player-index l.players));
}
