use Rattle.std.proofs.Common.{◌++◌, ◌∙◌, codes, append_assoc}
use Rattle.std.proofs.lemmas.List.{append-nil}
use Rattle.std.specs.Fmt.{decimal}
use Rattle.lq_report.specs.Output.{line_fault_line}
use Rattle.lq_report.proofs.Appended.{lined, then}
use Rattle.lq_report.proofs.changelog_log.append_line_fault.Goals as goal

pub returns : goal.returns
unfolding line_fault_line
returns c = lined c.append_line.result _ _ _ (codes "changelog fault: " ++ c.args.path.now ++ codes ": line " ++ decimal c.args.line) c.append_line.ensures
    (c.as_str.ensures ∙ then _ _ _ _ (then _ _ _ _ c.in_ok-text.ensures c.in_ok-push_str.ensures.ok) c.in_ok-append_counted.ensures ∙ simp (append_assoc, append-nil))
