use Rattle.std.proofs.Common.{refl}
use Rattle.lq_back.proofs.Laid.{sync_turn}
use Rattle.lq_back.proofs.sync_turn.sync_hand.Goals as goal

pub returns-clause-turn : goal.returns-clause-turn
returns-clause-turn c = λ d. sync_turn d c.args.rows c.in_ok-calls.calls _ c.requires.dated c.in_ok-calls.ensures

pub returns-clause-calls : goal.returns-clause-calls
returns-clause-calls c = c.in_ok-calls.ensures

pub returns-clause-goes_on : goal.returns-clause-goes_on
returns-clause-goes_on c = refl
