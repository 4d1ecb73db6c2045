use Rattle.std.proofs.Common.{◌≡◌, take}
use Rattle.std.specs.List.{flat_map}
use Rattle.lq_report.specs.Output.{happened_line}
use Rattle.lq_report.proofs.happened.lines_of.Given as goal

abbrev pub invariant-loop-happened : goal.invariant-loop-happened
invariant-loop-happened l = l.text ≡ flat_map happened_line (take l.happened-index l.all)
