use Rattle.std.proofs.Common.{◌≡◌, take}
use Rattle.std.specs.List.{flat_map}
use Rattle.lq_report.specs.Output.{history_line}
use Rattle.lq_report.proofs.history.history_text.Given as goal

abbrev pub invariant-loop-row : goal.invariant-loop-row
invariant-loop-row l = l.text ≡ flat_map history_line (take l.row-index l.rows)
