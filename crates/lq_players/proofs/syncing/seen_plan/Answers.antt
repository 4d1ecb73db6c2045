use Rattle.std.proofs.Common.{subst}
use Rattle.lq_players.proofs.Results.{ok_map}
use Rattle.lq_players.specs.Syncing.{PlansFor}
use Rattle.lq_seen.specs.View.{view_log}
use Rattle.lq_players.proofs.syncing.seen_plan.Goals as goal

pub returns : goal.returns
returns g c = ok_map c.rows_plan.result _ _ c.rows_plan.ensures (λ plan plans. record {
  rows = c.in_ok-rows.rows;
  has = c.in_ok-rows.ensures;
  plans = subst (λ rows. PlansFor c.args.reading (view_log c.args.options.now c.args.changelog.now).sets rows plan) c.as_slice.ensures plans;
})
