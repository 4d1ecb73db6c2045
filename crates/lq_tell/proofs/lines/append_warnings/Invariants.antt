use Rattle.std.proofs.Common.{◌≡◌, ◌++◌, take}
use Rattle.std.specs.List.{flat_map}
use Rattle.lq_tell.specs.Lines.{warning_line}
use Rattle.lq_tell.proofs.lines.append_warnings.Given as goal

abbrev pub invariant-loop-one : goal.invariant-loop-one
invariant-loop-one l = l.to ≡ l.fn.to ++ flat_map warning_line (take l.one-index l.warned)
