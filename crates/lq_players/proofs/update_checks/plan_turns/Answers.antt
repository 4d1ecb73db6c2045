use Rattle.std.proofs.Common.{sym, ◌∙◌}
use Rattle.lq_players.proofs.UpdateTurns.{idle_read, no_work, plans_idle, plans_turns, some_work}
use Rattle.lq_players.specs.Reports.{own_warned}
use Rattle.lq_players.specs.Updating.{log_of, warning}
use Rattle.lq_model.proofs.Lists.{true_false}
use Rattle.lq_players.proofs.update_checks.plan_turns.Goals as goal

pub returns-then-is_empty-clause-reads : goal.returns-then-is_empty-clause-reads
returns-then-is_empty-clause-reads c = idle_read c.args.asked.options.dialect (warning (own_warned c.args.own)) c.idle.result c.idle.ensures.planned

pub returns-then-is_empty-clause-plans : goal.returns-then-is_empty-clause-plans
returns-then-is_empty-clause-plans c =
    plans_idle c.args.asked c.args.rows.now c.args.own c.idle.result (no_work c.args.rows.now 0 (log_of c.args.asked).sets (sym c.in-Ok.ensures ∙ c.is_empty.ensures.0 c.if-is_empty.true)) c.idle.ensures.planned

pub returns-clause-plans : goal.returns-clause-plans
returns-clause-plans c =
    plans_turns c.args.asked c.args.rows.now c.args.own c.turns_of.result c.requires.faultless
    (some_work c.args.rows.now 0 (log_of c.args.asked).sets (λ none. true_false (c.is_empty.ensures.1 (c.in-Ok.ensures ∙ none)) c.if-is_empty.false)) c.in_ok-check_places.ensures.placed c.turns_of.ensures.turns
