use Rattle.std.proofs.Common.{map, ◌||◌, ◌≡◌}
use Rattle.std.specs.List.{list_any}
use Rattle.lq_model.specs.Catalogue.{has_equals, picked}
use Rattle.lq_rows.specs.Stored.{is_among}
use Rattle.lq_rows.proofs.whole.are_twins.Given as goal

abbrev pub invariant-loop-row : goal.invariant-loop-row
invariant-loop-row l =
    let rest = map (picked l.columns l.names) l.row-iterator in
    (list_any (is_among l.set) rest || has_equals rest) ≡ has_equals (map (picked l.columns l.names) l.rows.now)
