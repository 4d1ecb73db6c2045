use Rattle.std.proofs.Common.{sym, ◌∙◌}
use Rattle.lq_players.proofs.OneStepChecked.{true_not}
use Rattle.lq_players.proofs.Results.{ok_map}
use Rattle.lq_players.proofs.SyncPlanned.{with_faults, without_faults}
use Rattle.lq_seen.specs.View.{view_log}
use Rattle.lq_turns.specs.Faults.{faults}
use Rattle.lq_turns.specs.Script.{rows_to_sync}
use Rattle.lq_players.proofs.syncing.rows_plan.Goals as goal

pub returns-then-not-is_empty : goal.returns-then-not-is_empty
returns-then-not-is_empty c =
    let sets = (view_log c.args.options.now c.args.changelog.now).sets in
    let before = c.args.rows.now in
    with_faults (rows_to_sync c.args.reading sets before) before (faults sets before) c.in_ok-found.found c.in_ok-found.ensures (λ none. true_not (sym (c.is_empty.ensures.1 none) ∙ c.if-not-is_empty.true))

pub returns : goal.returns
returns c =
    let sets = (view_log c.args.options.now c.args.changelog.now).sets in
    let before = c.args.rows.now in
    ok_map c.insert.result _ _ c.insert.ensures (λ plan plans.
    without_faults (rows_to_sync c.args.reading sets before) c.in_ok-made.made before (faults sets before) c.in_ok-found.found plan c.in_ok-found.ensures (c.is_empty.ensures.0 c.if-not-is_empty.false) c.in_ok-made.ensures.rows plans)
