use Rattle.std.proofs.Common.{◌≡◌, ◌+◌, ◌++◌, drop}
use Rattle.lq_report.specs.Output.{drilled_from}
use Rattle.lq_report.proofs.drill.append_all.Given as goal

abbrev pub invariant-loop-index : goal.invariant-loop-index
invariant-loop-index l = l.fn.to ++ drilled_from 1 l.all ≡ l.to ++ drilled_from (l.index + 1) (drop l.index l.all)
