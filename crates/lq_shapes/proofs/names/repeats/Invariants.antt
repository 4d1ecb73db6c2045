use Rattle.std.proofs.Common.{◌≡◌, ◌||◌, map, take}
use Rattle.std.specs.List.{list_any}
use Rattle.lq_model.specs.Catalogue.{repeats}
use Rattle.lq_shapes.specs.Created.{has_name}
use Rattle.lq_shapes.proofs.names.repeats.Given as goal

abbrev pub invariant-loop-at : goal.invariant-loop-at
invariant-loop-at l = repeats (map (λ n. n.now) l.names) ≡ list_any (has_name l.seen) (map (λ n. n.now) (take l.at l.names)) || repeats (map (λ n. n.now) (take l.at l.names))
