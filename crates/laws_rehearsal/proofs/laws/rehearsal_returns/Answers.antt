use Rattle.lq_turns.specs.Set.{meaning}
use Rattle.laws_rehearsal.proofs.Again.{rehearsal_returns}
use Rattle.laws_rehearsal.proofs.laws.rehearsal_returns.Goals as goal

pub returns : goal.returns
returns g c = rehearsal_returns (meaning g.C.Change.is_for g.C.Change.gives g.C.Change.effect g.C.Change.fresh g.C.Change.inverse) (record { spelled = g.met.C.Change.spelled; does = g.met.C.Change.does; restores = g.met.C.Change.restores })
