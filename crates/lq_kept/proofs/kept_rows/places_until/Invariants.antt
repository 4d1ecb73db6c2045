use Rattle.std.proofs.Common.{length, ◌≡◌, ◌+◌}
use Rattle.lq_turns.specs.Script.{places_until}
use Rattle.lq_kept.proofs.kept_rows.places_until.Given as goal

abbrev pub invariant-loop-rest : goal.invariant-loop-rest
invariant-loop-rest l = (l.stay + places_until l.at l.rest ≡ places_until l.at l.rows) × (l.stay + length l.rest ≡ length l.rows)

abbrev pub decreases-loop-rest : goal.decreases-loop-rest
decreases-loop-rest l = length l.rest
