use Rattle.std.proofs.Common.{append_assoc, ◌∙◌}
use Rattle.lq_report.specs.Output.{sync_text}
use Rattle.lq_report.proofs.Appended.{then}
use Rattle.lq_report.proofs.happened.sync_text.Goals as goal

pub returns : goal.returns
unfolding sync_text
returns c = then _ _ _ _ c.in_ok-text.ensures c.in_ok-append_counted.ensures ∙ simp (append_assoc, c.count_of.ensures)
