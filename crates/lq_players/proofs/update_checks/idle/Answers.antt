use Rattle.std.proofs.Common.{ap, ◌∙◌}
use Rattle.lq_players.specs.Updating.{warning}
use Rattle.lq_players.specs.declared.update_checks.Planned.TheVariants.{Idle}
use Rattle.lq_playing.specs.declared.came.Report.{Report}
use Rattle.lq_players.proofs.update_checks.idle.Goals as goal

pub returns-clause-planned : goal.returns-clause-planned
returns-clause-planned c = ap (λ (r : Report). Idle (record r { warned = c.in-Ok.warned })) c.new-report.ensures ∙ ap (λ w. Idle (warning w)) c.in-Ok.ensures
