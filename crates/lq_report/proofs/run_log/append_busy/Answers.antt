use Rattle.std.proofs.Common.{sym}
use Rattle.lq_report.specs.Output.{busy_line}
use Rattle.lq_report.proofs.Appended.{on_ok}
use Rattle.lq_report.proofs.run_log.append_busy.Goals as goal

pub returns : goal.returns
unfolding busy_line
returns c = on_ok c.append_counted.result c.append_counted.ensures (λ is. rw (sym c.from.ensures) is)
