use Rattle.std.proofs.Common.{◌∙◌}
use Rattle.lq_any.specs.declared.any_change.AnyChange.{AnyChange}
use Rattle.lq_plan.proofs.Telling.{heads_tell}
use Rattle.lq_sets.proofs.planning.pending_of.Goals as goal
use Rattle.lq_seen.specs.View.{views}

pub returns : goal.returns
returns c = rw c.as_slice-2.ensures at c.in_ok-found.ensures ∙ (heads_tell AnyChange c.in_ok-heads.heads (views c.args.options.now c.args.changelog.now.sets) c.args.rows.now (rw c.as_slice.ensures at c.in_ok-heads.ensures)).2
