use Rattle.std.proofs.Common.{◌++◌, codes}
use Rattle.std.proofs.lemmas.List.{append-nil}
use Rattle.lq_report.specs.Output.{no_file_line}
use Rattle.lq_report.proofs.Appended.{lined}
use Rattle.lq_report.proofs.changelog_log.append_no_file.Goals as goal

pub returns : goal.returns
unfolding no_file_line
returns c = lined c.append_parts.result _ _ _ (codes "changelog fault: no file " ++ c.args.path.now) c.append_parts.ensures (simp append-nil)
