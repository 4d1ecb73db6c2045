use Rattle.std.proofs.Common.{◌++◌, codes}
use Rattle.std.proofs.lemmas.List.{append-nil}
use Rattle.lq_report.specs.Output.{not_writable_line}
use Rattle.lq_report.proofs.Appended.{lined}
use Rattle.lq_report.proofs.run_log.append_not_writable.Goals as goal

pub returns : goal.returns
unfolding not_writable_line
returns c = lined c.append_parts.result _ _ _ (codes "cannot write " ++ c.args.at.now) c.append_parts.ensures (simp append-nil)
