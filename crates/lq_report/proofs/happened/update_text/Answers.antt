use Rattle.std.proofs.Common.{append_assoc, ◌∙◌}
use Rattle.lq_report.specs.Output.{update_text}
use Rattle.lq_report.proofs.Appended.{then}
use Rattle.lq_report.proofs.happened.update_text.Goals as goal

pub returns : goal.returns
unfolding update_text
returns c =
    then _ _ _ _ (then _ _ _ _ (then _ _ _ _ (then _ _ _ _ (then _ _ _ _ c.in_ok-text.ensures c.in_ok-append_counted.ensures)
    c.in_ok-append_counted-2.ensures) c.in_ok-append_counted-3.ensures) c.in_ok-append_counted-4.ensures) c.in_ok-append_counted-5.ensures
    ∙ simp (append_assoc, c.count_of.ensures, c.count_of-2.ensures, c.count_of-3.ensures, c.count_of-4.ensures)
