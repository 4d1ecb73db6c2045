use Rattle.std.proofs.Common.{subst, sym}
use Rattle.laws_repair.specs.Repair.{back_calls}
use Rattle.lq_hand.specs.Hand.{AreTurns}
use Rattle.lq_reverse.specs.Back.{back}
use Rattle.lq_repair.proofs.Laid.{alone, one_turn}
use Rattle.lq_repair.proofs.laying.back_hand.Goals as goal

pub returns-clause-calls : goal.returns-clause-calls
returns-clause-calls c =
    let of = c.args.of.now in
    alone (back_calls of.who.now of.identity.now c.args.number (back of.dialect c.args.statement.now)) c.new-calls.result c.push_back.new.calls c.new-calls.ensures c.in_ok-push_back.ensures

pub returns-clause-turns : goal.returns-clause-turns
returns-clause-turns c =
    let of = c.args.of.now in
    let calls = back_calls of.who.now of.identity.now c.args.number (back of.dialect c.args.statement.now) in
    subst (AreTurns of.dialect _) (sym (alone calls c.new-calls.result c.push_back.new.calls c.new-calls.ensures c.in_ok-push_back.ensures))
    (one_turn of.dialect of.who.now of.identity.now c.args.number c.args.statement.now c.requires.statement)
