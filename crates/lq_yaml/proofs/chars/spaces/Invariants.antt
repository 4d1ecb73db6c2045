use Rattle.std.proofs.Common.{◌≡◌, ◌+◌, length}
use Rattle.lq_yaml.specs.Line.{spaces}
use Rattle.lq_yaml.proofs.chars.spaces.Given as goal

abbrev pub invariant-loop-rest : goal.invariant-loop-rest
invariant-loop-rest l = (spaces l.from ≡ spaces l.rest + l.count) × (length l.rest + l.count ≡ length l.from)

abbrev pub decreases-loop-rest : goal.decreases-loop-rest
decreases-loop-rest l = length l.rest
