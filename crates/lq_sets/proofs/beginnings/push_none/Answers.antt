use Rattle.std.proofs.Common.{arith, refl, rules, tests, ◌<◌, ◌-◌}
use Rattle.lq_sets.proofs.Begins.{none_over, none_pushed}
use Rattle.lq_sets.proofs.beginnings.push_none.Goals as goal

pub loop-left-preserved : goal.loop-left-preserved
loop-left-preserved c =
    let tested = c.loop-left-test.true in
    let some : 0 < c.loop-left.left = search (rules, tests) in
    none_pushed c.loop-left.left (c.loop-left.left - 1) c.loop-left.beginnings c.push.new.self _ some refl c.in_ok-push.ensures.ok c.loop-left.invariant

pub returns : goal.returns
returns c = none_over c.loop-left.left c.loop-left.beginnings _ (omega arith) c.loop-left.invariant
