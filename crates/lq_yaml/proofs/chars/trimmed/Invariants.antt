use Rattle.std.proofs.Common.{◌≡◌, ◌≤◌, length, take}
use Rattle.lq_yaml.specs.Line.{trimmed}
use Rattle.lq_yaml.proofs.chars.trimmed.Given as goal

abbrev pub invariant-loop-end : goal.invariant-loop-end
invariant-loop-end l = (l.end ≤ length l.from) × (trimmed l.from ≡ trimmed (take l.end l.from))

abbrev pub decreases-loop-end : goal.decreases-loop-end
decreases-loop-end l = l.end
