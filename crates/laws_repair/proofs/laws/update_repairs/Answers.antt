use Rattle.lq_turns.specs.Set.{meaning}
use Rattle.laws_repair.proofs.Updates.{update_repairs}
use Rattle.laws_repair.proofs.laws.update_repairs.Goals as goal

pub returns : goal.returns
returns g c = update_repairs (meaning g.C.Change.is_for g.C.Change.gives g.C.Change.effect g.C.Change.fresh g.C.Change.inverse) (record { spelled = g.met.C.Change.spelled; does = g.met.C.Change.does; restores = g.met.C.Change.restores })
