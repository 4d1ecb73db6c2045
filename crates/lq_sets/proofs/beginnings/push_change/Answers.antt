use Rattle.std.proofs.Common.{arith}
use Rattle.lq_sets.proofs.Begins.{change_pushed, no_statement}
use Rattle.lq_sets.proofs.beginnings.push_change.Goals as goal

pub returns-then-count-eq0 : goal.returns-then-count-eq0
returns-then-count-eq0 c = no_statement c.args.change c.args.count c.args.beginnings.now (omega arith)

pub returns : goal.returns
returns c = change_pushed c.args.change c.args.count c.args.beginnings.now c.push_none.new.beginnings c.push.new.self c.if-count-eq0.false c.in_ok-push_none.ensures c.in_ok-push.ensures.ok
