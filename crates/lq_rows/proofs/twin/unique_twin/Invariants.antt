use Rattle.std.proofs.Common.{drop, map, ◌≡◌}
use Rattle.std.specs.List.{list_any}
use Rattle.lq_model.specs.Plan.{is_twin_in}
use Rattle.lq_rows.specs.Stored.{AllShow}
use Rattle.lq_rows.proofs.twin.unique_twin.Given as goal

abbrev pub invariant-loop-unique : goal.invariant-loop-unique
invariant-loop-unique l = AllShow l.columns l.rows.now l.seen.items × (list_any (is_twin_in l.columns l.rows.now l.row) (map (λ u. u.columns) (drop l.unique-index l.uniques)) ≡ list_any (is_twin_in l.columns l.rows.now l.row) (map (λ u. u.columns) l.uniques))
