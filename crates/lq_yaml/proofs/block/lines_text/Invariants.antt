use Rattle.std.proofs.Common.{◌≡◌, ◌++◌, length}
use Rattle.lq_yaml.specs.Layout.{lines_text}
use Rattle.lq_yaml.proofs.block.lines_text.Given as goal

abbrev pub invariant-loop-rest : goal.invariant-loop-rest
invariant-loop-rest l = lines_text l.chomping l.lines ≡ l.text ++ lines_text l.chomping l.rest

abbrev pub decreases-loop-rest : goal.decreases-loop-rest
decreases-loop-rest l = length l.rest
