use Rattle.std.proofs.Common.{◌≡◌, length, max}
use Rattle.lq_turns.specs.Settle.{greatest}
use Rattle.lq_plan.proofs.turns.greatest.Given as goal

abbrev pub invariant-loop-rest : goal.invariant-loop-rest
invariant-loop-rest l = max l.last (greatest l.rest) ≡ greatest l.rows

abbrev pub decreases-loop-rest : goal.decreases-loop-rest
decreases-loop-rest l = length l.rest
