use Rattle.std.proofs.Common.{false, take, ◌≡◌}
use Rattle.std.specs.List.{list_any}
use Rattle.lq_model.specs.Catalogue.{repeats}
use Rattle.lq_shapes.proofs.own.unique_repeats.Given as goal

abbrev pub invariant-loop-unique : goal.invariant-loop-unique
invariant-loop-unique l = list_any (λ u. repeats u.columns) (take l.unique-index l.uniques) ≡ false
