use Rattle.lq_turns.specs.Set.{meaning}
use Rattle.lq_stand.proofs.FirstRows.{update_is_first}
use Rattle.lq_stand.proofs.laws.update_is_first.Goals as goal

pub returns : goal.returns
returns g c = update_is_first (meaning g.C.Change.is_for g.C.Change.gives g.C.Change.effect g.C.Change.fresh g.C.Change.inverse) (record { spelled = g.met.C.Change.spelled; does = g.met.C.Change.does; restores = g.met.C.Change.restores })
