use Rattle.lq_hand.specs.Hand.{calls_left}
use Rattle.lq_run.proofs.Known.{known_done, known_left}
use Rattle.lq_run.proofs.Stepping.{not_none, some_left}
use Rattle.lq_run.proofs.runner.taken.Goals as goal

pub returns-then-not-is_empty-clause-knows : goal.returns-then-not-is_empty-clause-knows
returns-then-not-is_empty-clause-knows g c = λ d stamp told goes_on p x e.
    known_left d _ goes_on (calls_left c.args.hand.now) p x (some_left c.args.hand.now.calls (not_none c.args.hand.now.calls c.is_empty.result c.is_empty.ensures.1 c.if-not-is_empty.true)) e

pub returns-clause-knows : goal.returns-clause-knows
returns-clause-knows g c = λ d stamp told goes_on p x e. known_done d _ _ goes_on c.args.hand.now.calls p x (c.is_empty.ensures.0 c.if-not-is_empty.false) (c.finished.ensures.knows d stamp told) e
