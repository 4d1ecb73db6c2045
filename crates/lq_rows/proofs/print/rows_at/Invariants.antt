use Rattle.std.proofs.Common.{drop, map, slice_get, ◌++◌, ◌≡◌}
use Rattle.std.specs.List.{filter_map}
use Rattle.lq_rows.proofs.print.rows_at.Given as goal

abbrev pub invariant-loop-at : goal.invariant-loop-at
invariant-loop-at l = map (λ row. row.now) l.found.items ++ filter_map (slice_get l.rows.now) (drop l.at-index l.places) ≡ filter_map (slice_get l.rows.now) l.places
