use Rattle.std.proofs.Common.{◌++◌, codes}
use Rattle.std.proofs.lemmas.List.{append-nil}
use Rattle.lq_report.specs.Output.{no_tag_line}
use Rattle.lq_report.proofs.Appended.{lined}
use Rattle.lq_report.proofs.run_log.append_no_tag.Goals as goal

pub returns : goal.returns
unfolding no_tag_line
returns c = lined c.append_parts.result _ _ _ (codes "no changeset has the tag " ++ c.args.tag.now) c.append_parts.ensures (simp append-nil)
