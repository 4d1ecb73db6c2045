use Rattle.std.proofs.Common.{◌≡◌, ◌+◌, length}
use Rattle.lq_yaml.specs.Line.{plain_length}
use Rattle.lq_yaml.proofs.plain.plain_length.Given as goal

abbrev pub invariant-loop-rest : goal.invariant-loop-rest
invariant-loop-rest l = (plain_length l.from ≡ plain_length l.rest + l.count) × (length l.rest + l.count ≡ length l.from)

abbrev pub decreases-loop-rest : goal.decreases-loop-rest
decreases-loop-rest l = length l.rest
