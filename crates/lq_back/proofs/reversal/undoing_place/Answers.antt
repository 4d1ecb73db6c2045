use Rattle.lq_back.proofs.Ways.{no_place, some_place}
use Rattle.lq_back.proofs.reversal.undoing_place.Goals as goal

pub returns-in-None : goal.returns-in-None
returns-in-None c = λ xs has. no_place xs c.args.row.now (rw c.in-None.is at (c.place_of.ensures xs has))

pub returns-in-Some : goal.returns-in-Some
returns-in-Some c = λ xs has. some_place xs c.args.row.now c.in-Some.place.index c.in-Some.place.set.now c.by_set.result c.by_set.ensures (rw c.in-Some.is at (c.place_of.ensures xs has))
