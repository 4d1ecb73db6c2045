use Rattle.std.proofs.Common.{◌≡◌, ◌≤◌, length}
use Rattle.lq_yaml.specs.Line.{without_blanks}
use Rattle.lq_yaml.proofs.chars.without_blanks.Given as goal

abbrev pub invariant-loop-rest : goal.invariant-loop-rest
invariant-loop-rest l = (without_blanks l.from ≡ without_blanks l.rest) × (length l.rest ≤ length l.from)

abbrev pub decreases-loop-rest : goal.decreases-loop-rest
decreases-loop-rest l = length l.rest
