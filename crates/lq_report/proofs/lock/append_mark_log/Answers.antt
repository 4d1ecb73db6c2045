use Rattle.std.proofs.Common.{◌++◌, ◌∙◌, codes}
use Rattle.std.proofs.lemmas.List.{append-nil}
use Rattle.lq_report.specs.Mark.{mark_text}
use Rattle.lq_report.proofs.Appended.{lined, then}
use Rattle.lq_report.proofs.lock.append_mark_log.Goals as goal

pub returns : goal.returns
returns c = lined c.append_line.result _ _ _ (codes "unrecorded: " ++ mark_text (c.args.mark.now.identity.now, c.args.mark.now.form, c.args.mark.now.statement.now)) c.append_line.ensures
    (c.as_str.ensures ∙ then _ _ _ _ c.in_ok-text.ensures c.in_ok-append_mark.ensures ∙ simp append-nil)
