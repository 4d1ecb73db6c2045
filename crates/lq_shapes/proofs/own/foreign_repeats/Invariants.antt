use Rattle.std.proofs.Common.{false, take, ◌≡◌, ◌||◌}
use Rattle.std.specs.List.{list_any}
use Rattle.lq_model.specs.Catalogue.{repeats}
use Rattle.lq_shapes.proofs.own.foreign_repeats.Given as goal

abbrev pub invariant-loop-key : goal.invariant-loop-key
invariant-loop-key l = list_any (λ f. repeats f.columns || repeats f.targets) (take l.key-index l.keys) ≡ false
