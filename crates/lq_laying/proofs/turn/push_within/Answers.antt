use Rattle.std.proofs.Common.{rules}
use Rattle.std.proofs.lemmas.Result.{on_ok_weaker}
use Rattle.lq_laying.proofs.Laying.{within_marked, within_plain}
use Rattle.lq_laying.proofs.turn.push_within.Goals as goal

pub push_last-requires : goal.push_last-requires
push_last-requires c = record { some = c.requires.some }

pub returns-in_err-commits : goal.returns-in_err-commits
returns-in_err-commits c = search rules

pub returns-then-commits : goal.returns-then-commits
returns-then-commits c = on_ok_weaker c.push_mark.result
    (within_marked c.args.marking.now c.args.statements.now c.push_last.new.statements c.len-number.result c.args.calls.now c.push_last.new.calls c.push_mark.new.calls
    c.in_ok-commits.commits c.requires.whole c.len-number.ensures c.in_ok-commits.ensures c.if-commits.true)
    c.push_mark.ensures

pub returns-else-commits : goal.returns-else-commits
returns-else-commits c = within_plain c.args.marking.now c.args.statements.now c.push_last.new.statements c.len-number.result c.args.calls.now c.push_last.new.calls
    c.in_ok-commits.commits c.requires.whole c.len-number.ensures c.in_ok-commits.ensures c.if-commits.false
