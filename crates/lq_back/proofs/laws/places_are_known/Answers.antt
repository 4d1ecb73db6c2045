use Rattle.lq_back.proofs.Ways.{places_are_known}
use Rattle.lq_back.proofs.laws.places_are_known.Goals as goal

pub returns : goal.returns
returns c = places_are_known
