use Rattle.std.proofs.Common.{sym, ◌∙◌}
use Rattle.lq_players.proofs.update_checks.plan.Goals as goal

pub plan_on-requires-clause-rows : goal.plan_on-requires-clause-rows
plan_on-requires-clause-rows g c = λ database stands. c.in-Ok.ensures database stands ∙ sym c.as_slice.ensures
