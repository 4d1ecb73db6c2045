use Rattle.std.proofs.lemmas.Result.{on_ok_weaker}
use Rattle.lq_hand.proofs.TurnLaid.{laid_to_row}
use Rattle.lq_hand.proofs.turn.push_turn.Goals as goal

pub returns : goal.returns
returns c = on_ok_weaker c.push_parts.result
    (laid_to_row c.args.dialect c.args.who.now c.args.turn c.args.calls.now c.push_parts.new.calls)
    c.push_parts.ensures
