use Rattle.std.proofs.Common.{List, ap, reverse, rules, ◌++◌}
use Rattle.lq_filled.proofs.Behind.{all_turned, one_turned}
use Rattle.lq_filled.proofs.turned.turned.Goals as goal

pub loop-item-init : goal.loop-item-init
loop-item-init g c = ap (λ (l : List _). l ++ reverse c.args.items) c.new-turned.ensures

pub loop-item-preserved : goal.loop-item-preserved
loop-item-preserved g c =
    one_turned c.loop-item.turned c.push.new.self c.pop.new.self c.loop-item.left _ c.in-Some.item c.in-Some.ensures c.in_ok-push.ensures.ok c.loop-item.invariant

pub returns : goal.returns
returns g c = all_turned c.loop-item.turned c.loop-item.left _ (search rules) c.loop-item.invariant
