use Rattle.std.proofs.Common.{◌++◌}
use Rattle.lq_last_first.specs.LastFirst.{last_first}
use Rattle.lq_last_first.proofs.LastOf.{one_more}
use Rattle.lq_last_first.proofs.undoing.push_undoing.Goals as goal

pub loop-thing-preserved : goal.loop-thing-preserved
loop-thing-preserved g c =
    one_more (g.B.TakesBack.steps c.args.by.now) c.loop-thing.to c.push_steps.new.to (c.args.to.now ++ last_first (g.B.TakesBack.steps c.args.by.now) c.args.things.now) c.loop-thing.rest.now c.in-Some.before.now c.in-Some.thing.now
    c.in-Some.ensures.cases.0 c.in_ok-push_steps.ensures c.loop-thing.invariant
