use Rattle.std.proofs.Common.{rules}
use Rattle.std.proofs.lemmas.Result.{on_ok_weaker}
use Rattle.lq_laying.proofs.Laying.{apart_laid}
use Rattle.lq_laying.proofs.turn.push_apart.Goals as goal

pub push_last-requires : goal.push_last-requires
push_last-requires c = record { some = c.requires.some }

pub returns-in_err-push : goal.returns-in_err-push
returns-in_err-push c = search rules

pub returns-in_err-push_last : goal.returns-in_err-push_last
returns-in_err-push_last c = search rules

pub returns-in_err-push_mark : goal.returns-in_err-push_mark
returns-in_err-push_mark c = search rules

pub returns : goal.returns
returns c = on_ok_weaker c.push-2.result
    (apart_laid c.args.marking.now c.args.statements.now c.push_last.new.statements c.len-number.result c.args.calls.now c.push.new.calls c.push_last.new.calls c.push_mark.new.calls c.push-2.new.calls
    c.in_ok-push_last.field-0 c.requires.apart c.len-number.ensures c.in_ok-push.ensures c.in_ok-push_last.ensures c.in_ok-push_mark.ensures)
    c.push-2.ensures
