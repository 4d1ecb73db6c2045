use Rattle.std.proofs.Common.{◌≡◌, drop}
use Rattle.lq_yaml.specs.Line.{mode_after}
use Rattle.lq_yaml.proofs.line.mode_after.Given as goal

abbrev pub invariant-loop-token : goal.invariant-loop-token
invariant-loop-token l = mode_after l.fn.parent l.tokens ≡ mode_after l.parent (drop l.token-index l.tokens)
