use Rattle.std.proofs.Common.{arith, rules}
use Rattle.lq_plan.proofs.Working.{work_more}
use Rattle.lq_plan.proofs.turns.work.Goals as goal

pub loop-head-preserved : goal.loop-head-preserved
loop-head-preserved c = (work_more c.args.heads.now c.loop-head.head-index _ c.head-item.result c.args.rows.now c.loop-head.items c.add_item.new.items _ c.loop-head.place (omega arith) c.head-item.is c.loop-head.invariant.0 c.loop-head.invariant.1 (c.what.ensures c.args.rows.now c.in_ok-index.ensures) c.in_ok-add_item.ensures, search rules)
