use Rattle.lq_plan.proofs.Filled.{filled}
use Rattle.lq_plan.proofs.turns.is_filled.Goals as goal

pub returns : goal.returns
returns c = filled c.args.head.now c.args.stored.now c.is_to_fill.result c.is_to_fill.ensures.null c.is_to_fill.ensures.own
