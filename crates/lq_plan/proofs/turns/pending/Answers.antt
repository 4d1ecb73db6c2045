use Rattle.std.proofs.Common.{arith}
use Rattle.lq_plan.proofs.Waiting.{pending_more}
use Rattle.lq_plan.proofs.turns.pending.Goals as goal

pub loop-head-preserved : goal.loop-head-preserved
loop-head-preserved c = pending_more c.args.heads.now c.loop-head.head-index _ c.head-item.result c.args.rows.now c.loop-head.found c.add_pending.new.found _ (omega arith) c.head-item.is c.loop-head.invariant (c.what.ensures c.args.rows.now c.in_ok-index.ensures) c.in_ok-add_pending.ensures
