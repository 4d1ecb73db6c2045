use Rattle.std.specs.List.{All}
use Rattle.std.specs.Prelude.{length, ◌+◌, ◌≤◌}
use Rattle.lq_drills.proofs.DrillPlayers.{Casting}
use Rattle.lq_drills.proofs.drilling.cast_named.Given as goal
use Rattle.lq_drills.specs.Drilled.{IsEntrant}

abbrev pub invariant-loop-alloc : goal.invariant-loop-alloc
invariant-loop-alloc g l = record {
  each : All (IsEntrant l.fn.dialect) l.entrants;
  few : length l.cast.players.items + length l.entrants ≤ 64;
  casting : Casting l.fn.dialect l.fn.name l.fn.entrants (g.C.Clock.to_come l.fn.clock) (g.C.Clock.to_come l.clock) l.entrants l.cast.players.items l.cast.commands;
}

abbrev pub decreases-loop-alloc : goal.decreases-loop-alloc
decreases-loop-alloc g l = length l.entrants
