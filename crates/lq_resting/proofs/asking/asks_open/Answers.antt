use Rattle.std.proofs.Common.{refl}
use Rattle.lq_hand.specs.Hand.{calls_left}
use Rattle.lq_hand.specs.declared.hand.Phase.TheVariants.{GivingUp, Inside, Over}
use Rattle.lq_resting.proofs.Asked.{asks_at}
use Rattle.lq_resting.proofs.asking.asks_open.Goals as goal

pub returns-in-Inside : goal.returns-in-Inside
returns-in-Inside c = asks_at c.args.hand.now.phase Inside (calls_left c.args.hand.now) c.first_within.result c.in-Inside.is c.first_within.ensures

pub returns-in-GivingUp : goal.returns-in-GivingUp
returns-in-GivingUp c = asks_at c.args.hand.now.phase GivingUp (calls_left c.args.hand.now) _ c.in-GivingUp.is refl

pub returns-in-Over : goal.returns-in-Over
returns-in-Over c = asks_at c.args.hand.now.phase Over (calls_left c.args.hand.now) _ c.in-Over.is refl
