use Rattle.std.proofs.Common.{ap, arith, refl, rules, ◌∙◌}
use Rattle.lq_hand.specs.Way.{no_progress, refused_in, sights}
use Rattle.lq_hand.proofs.Counted.{few_statements, turn_refused}
use Rattle.lq_hand.proofs.Sighted.{turn_seen}
use Rattle.lq_hand.proofs.InHand.{in_hand}
use Rattle.lq_hand.proofs.hand.Hand.of_turn.Goals as goal

pub returns-in_err-calls-clause-turn : goal.returns-in_err-calls-clause-turn
returns-in_err-calls-clause-turn c = search rules

pub returns-in_err-calls-clause-calls : goal.returns-in_err-calls-clause-calls
returns-in_err-calls-clause-calls c = search rules

pub returns-in_err-calls-clause-goes_on : goal.returns-in_err-calls-clause-goes_on
returns-in_err-calls-clause-goes_on c = search rules

pub returns-in_err-calls-clause-refused : goal.returns-in_err-calls-clause-refused
returns-in_err-calls-clause-refused c = search rules

pub returns-in_err-calls-clause-seen : goal.returns-in_err-calls-clause-seen
returns-in_err-calls-clause-seen c = search rules

pub returns-clause-refused : goal.returns-clause-refused
returns-clause-refused c = λ z. ap (λ calls. refused_in c.args.dialect calls no_progress z) c.in_ok-calls.ensures
    ∙ turn_refused c.args.dialect c.args.who.now c.args.turn z (few_statements c.args.dialect c.args.who.now c.args.turn c.in_ok-calls.calls c.len-count.result c.in_ok-calls.ensures c.len-count.ensures (omega arith))

pub returns-clause-seen : goal.returns-clause-seen
returns-clause-seen c = λ z. ap (λ calls. sights c.args.dialect calls z) c.in_ok-calls.ensures ∙ turn_seen c.args.dialect c.args.who.now c.args.turn z

pub returns-clause-turn : goal.returns-clause-turn
returns-clause-turn c = in_hand c.args.dialect c.args.who.now c.args.turn c.in_ok-calls.calls c.args.goes_on c.requires.statements c.requires.row c.in_ok-calls.ensures

pub returns-clause-calls : goal.returns-clause-calls
returns-clause-calls c = c.in_ok-calls.ensures

pub returns-clause-goes_on : goal.returns-clause-goes_on
returns-clause-goes_on c = refl
