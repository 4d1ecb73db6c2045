use Rattle.std.proofs.Common.{◌≡◌, length, option_map}
use Rattle.lq_yaml.specs.Line.{double, with_front}
use Rattle.lq_yaml.proofs.quoted.double_of.Given as goal

abbrev pub invariant-loop-c : goal.invariant-loop-c
invariant-loop-c l = double l.fn.from ≡ option_map (with_front l.value.items) (double l.rest)

abbrev pub decreases-loop-c : goal.decreases-loop-c
decreases-loop-c l = length l.rest
