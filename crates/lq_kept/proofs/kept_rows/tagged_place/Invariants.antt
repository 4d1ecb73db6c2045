use Rattle.std.proofs.Common.{length, ◌≡◌}
use Rattle.lq_turns.specs.Script.{tagged_place}
use Rattle.lq_kept.proofs.kept_rows.tagged_place.Given as goal

abbrev pub invariant-loop-row : goal.invariant-loop-row
invariant-loop-row l = tagged_place l.tag l.rest ≡ tagged_place l.tag l.rows

abbrev pub decreases-loop-row : goal.decreases-loop-row
decreases-loop-row l = length l.rest
