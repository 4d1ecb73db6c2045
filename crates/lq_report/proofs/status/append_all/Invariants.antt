use Rattle.std.proofs.Common.{◌≡◌, ◌++◌, take}
use Rattle.std.specs.List.{flat_map}
use Rattle.lq_report.specs.Output.{pending_line}
use Rattle.lq_report.proofs.status.append_all.Given as goal

abbrev pub invariant-loop-identity : goal.invariant-loop-identity
invariant-loop-identity l = l.to ≡ l.fn.to ++ flat_map pending_line (take l.identity-index l.pending)
