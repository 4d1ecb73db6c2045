use Rattle.std.proofs.Common.{◌≡◌, length}
use Rattle.lq_yaml.specs.View.{place_of, settled_place}
use Rattle.lq_yaml.proofs.place.Place.settle.Given as goal

abbrev pub invariant-loop-self : goal.invariant-loop-self
invariant-loop-self l = settled_place l.rank (place_of l.self) ≡ settled_place l.rank (place_of l.initial.self)

abbrev pub decreases-loop-self : goal.decreases-loop-self
decreases-loop-self l = length l.self.frames.items
