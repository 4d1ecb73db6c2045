use Rattle.std.proofs.Common.{rules}
use Rattle.std.proofs.lemmas.Result.{on_ok_weaker}
use Rattle.lq_laying.proofs.Laying.{begun_apart, begun_whole}
use Rattle.lq_laying.proofs.turn.push_statements.Goals as goal

pub returns-in_err-push : goal.returns-in_err-push
returns-in_err-push c = search rules

pub returns-in_err-push_all : goal.returns-in_err-push_all
returns-in_err-push_all c = search rules

pub returns-in_ok-push_all : goal.returns-in_ok-push_all
returns-in_ok-push_all c = on_ok_weaker c.push.result
    (begun_whole c.args.marking.now c.args.statements.now c.args.calls.now c.push_all.new.calls c.push.new.calls c.if-marking.true c.in_ok-push_all.ensures)
    c.push.ensures

pub returns-in_ok-push : goal.returns-in_ok-push
returns-in_ok-push c = on_ok_weaker c.push_all-else-marking.result
    (begun_apart c.args.marking.now c.args.statements.now c.args.calls.now c.push-else-marking.new.calls c.push_all-else-marking.new.calls c.if-marking.false c.in_ok-push.ensures)
    c.push_all-else-marking.ensures
