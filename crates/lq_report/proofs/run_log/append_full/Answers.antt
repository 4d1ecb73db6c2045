use Rattle.std.proofs.Common.{append_assoc}
use Rattle.lq_report.specs.Output.{full_line}
use Rattle.lq_report.proofs.Appended.{on_ok, two}
use Rattle.lq_report.proofs.run_log.append_full.Goals as goal

pub returns : goal.returns
unfolding full_line
returns c = on_ok c.append_counted-2.result c.append_counted-2.ensures (λ is. two _ _ _ _ _ (full_line c.args.used c.args.next) c.in_ok-append_counted.ensures is (simp append_assoc))
