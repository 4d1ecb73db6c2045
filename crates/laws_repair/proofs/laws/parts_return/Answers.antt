use Rattle.lq_turns.specs.Set.{meaning}
use Rattle.laws_repair.proofs.Parts.{parts_return}
use Rattle.laws_repair.proofs.laws.parts_return.Goals as goal

pub returns : goal.returns
returns g c = parts_return (meaning g.C.Change.is_for g.C.Change.gives g.C.Change.effect g.C.Change.fresh g.C.Change.inverse) (record { spelled = g.met.C.Change.spelled; does = g.met.C.Change.does; restores = g.met.C.Change.restores })
