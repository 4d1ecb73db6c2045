use Rattle.std.proofs.Common.{drop, map, ◌≡◌}
use Rattle.std.specs.List.{list_any}
use Rattle.lq_rowops.specs.InsertTests.{set_twins}
use Rattle.lq_rowops.proofs.twins.unique_twins.Given as goal

abbrev pub invariant-loop-unique : goal.invariant-loop-unique
invariant-loop-unique l = list_any (set_twins l.sets l.held.now) (map (λ u. u.columns) (drop l.unique-index l.uniques)) ≡ list_any (set_twins l.sets l.held.now) (map (λ u. u.columns) l.uniques)
