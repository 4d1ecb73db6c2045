use Rattle.std.proofs.Common.{rules}
use Rattle.lq_hand.proofs.TurnLaid.{turn_laid}
use Rattle.lq_hand.proofs.turn.turn_calls.Goals as goal

pub returns-in_err-push_end : goal.returns-in_err-push_end
returns-in_err-push_end c = search rules

pub returns-in_err-push_turn : goal.returns-in_err-push_turn
returns-in_err-push_turn c = search rules

pub returns : goal.returns
returns c = turn_laid c.args.dialect c.args.who.now c.args.turn _ c.push_end.new.calls c.push_turn.new.calls c.new-calls.ensures c.in_ok-push_end.ensures c.in_ok-push_turn.ensures
