use Rattle.lq_turns.specs.Set.{meaning}
use Rattle.lq_turns.proofs.RunsOn.{tag_keeps}
use Rattle.lq_turns.proofs.laws.tag_keeps.Goals as goal

pub returns : goal.returns
returns g c = tag_keeps (meaning g.C.Change.is_for g.C.Change.gives g.C.Change.effect g.C.Change.fresh g.C.Change.inverse)
