use Rattle.std.proofs.Common.{rules}
use Rattle.std.proofs.lemmas.Result.{on_ok_weaker}
use Rattle.lq_hand.proofs.TurnLaid.{end_laid}
use Rattle.lq_hand.proofs.turn.push_end.Goals as goal

pub returns-in_err-push : goal.returns-in_err-push
returns-in_err-push c = search rules

pub returns : goal.returns
returns c = on_ok_weaker c.push_unmark.result
    (end_laid c.args.dialect c.args.who.now c.args.turn.now c.has_marks.result c.args.calls.now c.push.new.calls c.push_unmark.new.calls c.has_marks.ensures c.in_ok-push.ensures)
    c.push_unmark.ensures
