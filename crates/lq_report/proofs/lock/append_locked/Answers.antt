use Rattle.std.proofs.Common.{append_assoc}
use Rattle.lq_report.specs.Output.{locked_lines}
use Rattle.lq_report.proofs.Appended.{on_ok, two}
use Rattle.lq_report.proofs.lock.append_locked.Goals as goal

pub returns : goal.returns
unfolding locked_lines
returns c = on_ok c.append_unrecorded_log.result c.append_unrecorded_log.ensures (λ is. two _ _ _ _ _ (locked_lines c.args.lock.now) c.in_ok-append_held_log.ensures is (simp append_assoc))
