use Rattle.std.proofs.Common.{arith, sym, ◌∙◌}
use Rattle.lq_arm.proofs.Known.{repeats_more}
use Rattle.lq_arm.proofs.columns.repeats.Goals as goal

pub loop-name-preserved : goal.loop-name-preserved
loop-name-preserved c = repeats_more _ c.args.names.now c.loop-name.name-index _ c.name-item.result c.loop-name.known c.was_known.new.known (omega arith) c.name-item.is c.loop-name.invariant (sym c.in_ok-was_known.ensures.was ∙ c.if-branch.false) c.in_ok-was_known.ensures.also
