use Rattle.lq_stand.proofs.Places.{places_are_small}
use Rattle.lq_stand.proofs.laws.places_are_small.Goals as goal

pub returns : goal.returns
returns c = places_are_small
