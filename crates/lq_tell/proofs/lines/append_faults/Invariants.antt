use Rattle.std.proofs.Common.{◌≡◌, ◌++◌, take}
use Rattle.std.specs.List.{flat_map}
use Rattle.lq_tell.specs.Lines.{fault_line}
use Rattle.lq_tell.proofs.lines.append_faults.Given as goal

abbrev pub invariant-loop-fault : goal.invariant-loop-fault
invariant-loop-fault l = l.to ≡ l.fn.to ++ flat_map fault_line (take l.fault-index l.faults)
