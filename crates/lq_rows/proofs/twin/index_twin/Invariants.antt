use Rattle.std.proofs.Common.{drop, map, ◌≡◌}
use Rattle.std.specs.List.{filter, list_any}
use Rattle.lq_model.specs.Plan.{is_twin_in}
use Rattle.lq_rows.specs.Stored.{AllShow}
use Rattle.lq_rows.proofs.twin.index_twin.Given as goal

abbrev pub invariant-loop-index : goal.invariant-loop-index
invariant-loop-index l = AllShow l.columns l.rows.now l.seen.items × (list_any (is_twin_in l.columns l.rows.now l.row) (map (λ i. i.columns) (filter (λ i. i.unique) (drop l.index-index l.indexes))) ≡ list_any (is_twin_in l.columns l.rows.now l.row) (map (λ i. i.columns) (filter (λ i. i.unique) l.indexes)))
