use Rattle.std.proofs.Common.{drop, map, ◌≡◌}
use Rattle.std.specs.List.{filter, list_any}
use Rattle.lq_rowops.specs.InsertTests.{set_twins}
use Rattle.lq_rowops.proofs.twins.index_twins.Given as goal

abbrev pub invariant-loop-index : goal.invariant-loop-index
invariant-loop-index l = list_any (set_twins l.sets l.held.now) (map (λ i. i.columns) (filter (λ i. i.unique) (drop l.index-index l.indexes))) ≡ list_any (set_twins l.sets l.held.now) (map (λ i. i.columns) (filter (λ i. i.unique) l.indexes))
