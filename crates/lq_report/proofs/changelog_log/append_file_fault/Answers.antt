use Rattle.std.proofs.Common.{◌++◌, codes, append_assoc}
use Rattle.std.proofs.lemmas.List.{append-nil}
use Rattle.lq_report.specs.Output.{file_fault_line}
use Rattle.lq_report.proofs.Appended.{lined}
use Rattle.lq_report.proofs.changelog_log.append_file_fault.Goals as goal

pub returns : goal.returns
unfolding file_fault_line
returns c = lined c.append_parts.result _ _ _ (codes "changelog fault: " ++ c.args.path.now ++ codes ": " ++ c.args.what.now) c.append_parts.ensures (simp (append_assoc, append-nil))
