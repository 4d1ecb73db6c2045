use Rattle.lq_turns.specs.Set.{meaning}
use Rattle.lq_turns.proofs.RunsOn.{runs_on}
use Rattle.lq_turns.proofs.laws.runs_on.Goals as goal

pub returns : goal.returns
returns g c = runs_on (meaning g.C.Change.is_for g.C.Change.gives g.C.Change.effect g.C.Change.fresh g.C.Change.inverse)
