use Rattle.std.proofs.Common.{length, option_and_then, ◌≡◌, ◌≤◌}
use Rattle.lq_canon.specs.Passing.{number_at, split}
use Rattle.lq_canon.proofs.reading.atom_at.Given as goal

abbrev pub invariant-loop-rest : goal.invariant-loop-rest
invariant-loop-rest l = (option_and_then split (number_at l.count l.rest) ≡ option_and_then split (number_at 0 l.bytes)) × (length l.rest ≤ length l.bytes)

abbrev pub decreases-loop-rest : goal.decreases-loop-rest
decreases-loop-rest l = length l.rest
