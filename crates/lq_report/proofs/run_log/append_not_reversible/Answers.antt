use Rattle.std.proofs.Common.{◌++◌, ◌∙◌, codes}
use Rattle.lq_report.specs.Output.{not_reversible_line, undoable_text}
use Rattle.lq_report.proofs.Appended.{lined, then}
use Rattle.lq_report.proofs.run_log.append_not_reversible.Goals as goal

pub returns : goal.returns
unfolding not_reversible_line
returns c = lined c.append_line.result _ _ _ (codes "no rollback for " ++ undoable_text c.args.identity.now) c.append_line.ensures
    (c.as_str.ensures ∙ then _ _ _ _ c.in_ok-text.ensures c.in_ok-append_undoable.ensures)
