use Rattle.std.proofs.Common.{◌≡◌, length, option_map}
use Rattle.lq_yaml.specs.Line.{single, with_front}
use Rattle.lq_yaml.proofs.quoted.single_of.Given as goal

abbrev pub invariant-loop-rest : goal.invariant-loop-rest
invariant-loop-rest l = single l.fn.from ≡ option_map (with_front l.value.items) (single l.rest)

abbrev pub decreases-loop-rest : goal.decreases-loop-rest
decreases-loop-rest l = length l.rest
