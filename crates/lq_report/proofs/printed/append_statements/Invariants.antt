use Rattle.std.proofs.Common.{◌≡◌, ◌++◌, take}
use Rattle.std.specs.List.{flat_map}
use Rattle.lq_report.specs.Output.{statement_line}
use Rattle.lq_report.proofs.printed.append_statements.Given as goal

abbrev pub invariant-loop-text : goal.invariant-loop-text
invariant-loop-text l = l.to ≡ l.fn.to ++ flat_map statement_line (take l.text-index l.texts)
