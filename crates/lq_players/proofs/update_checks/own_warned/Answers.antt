use Rattle.std.proofs.Common.{ap, sym, ◌∙◌}
use Rattle.lq_players.proofs.Results.{ok_map}
use Rattle.lq_players.specs.Reports.{own_warned}
use Rattle.lq_players.proofs.update_checks.own_warned.Goals as goal

pub returns-in-Runs : goal.returns-in-Runs
returns-in-Runs c = ok_map c.warned_by.result _ _ c.warned_by.ensures (λ w is. is ∙ sym (ap own_warned c.in-Runs.is))

pub returns-in-Passes : goal.returns-in-Passes
returns-in-Passes c = c.new.ensures ∙ sym (ap own_warned c.in-Passes.is)

pub returns-in-Fills : goal.returns-in-Fills
returns-in-Fills c = c.new-in-Fills.ensures ∙ sym (ap own_warned c.in-Fills.is)

pub returns-in-Skips : goal.returns-in-Skips
returns-in-Skips c = c.new-in-Skips.ensures ∙ sym (ap own_warned c.in-Skips.is)

pub returns-in-Marks : goal.returns-in-Marks
returns-in-Marks c = c.new-in-Marks.ensures ∙ sym (ap own_warned c.in-Marks.is)

pub returns-in-Halts : goal.returns-in-Halts
returns-in-Halts c = c.new-in-Halts.ensures ∙ sym (ap own_warned c.in-Halts.is)
