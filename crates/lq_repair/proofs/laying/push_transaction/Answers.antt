use Rattle.std.proofs.Common.{rules}
use Rattle.std.proofs.lemmas.Result.{on_ok_weaker}
use Rattle.lq_repair.proofs.Laid.{transaction_laid}
use Rattle.lq_repair.proofs.laying.push_transaction.Goals as goal

pub returns-in_err-push : goal.returns-in_err-push
returns-in_err-push c = search rules

pub returns-in_err-push-2 : goal.returns-in_err-push-2
returns-in_err-push-2 c = search rules

pub returns-in_err-push_mark : goal.returns-in_err-push_mark
returns-in_err-push_mark c = search rules

pub returns : goal.returns
returns c = on_ok_weaker c.push-3.result
    (transaction_laid c.args.of.now.who.now c.args.of.now.identity.now c.args.number c.args.undoing c.args.calls.now c.push.new.calls c.push-2.new.calls c.push_mark.new.calls c.push-3.new.calls
    c.in_ok-push.ensures c.in_ok-push-2.ensures c.in_ok-push_mark.ensures)
    c.push-3.ensures
