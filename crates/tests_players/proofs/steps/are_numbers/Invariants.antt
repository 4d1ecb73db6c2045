use Rattle.std.proofs.Common.{take, ◌≤◌}
use Rattle.std.specs.List.{All}
use Rattle.tests_players.proofs.steps.are_numbers.Given as goal

abbrev pub invariant-loop-step : goal.invariant-loop-step
invariant-loop-step l = All (λ n. (1 ≤ n) × (n ≤ l.count)) (take l.step-index l.steps)
