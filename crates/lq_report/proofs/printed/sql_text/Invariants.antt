use Rattle.std.proofs.Common.{◌≡◌, take}
use Rattle.std.specs.List.{flat_map}
use Rattle.lq_report.specs.Output.{printed_text}
use Rattle.lq_report.proofs.printed.sql_text.Given as goal

abbrev pub invariant-loop-printed : goal.invariant-loop-printed
invariant-loop-printed l = l.text ≡ flat_map (printed_text l.undo) (take l.printed-index l.all)
