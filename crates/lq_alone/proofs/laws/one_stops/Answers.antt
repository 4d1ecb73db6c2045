use Rattle.lq_alone.proofs.Plainly.{one_stops}
use Rattle.lq_alone.proofs.laws.one_stops.Goals as goal

pub returns : goal.returns
returns g c = one_stops _
