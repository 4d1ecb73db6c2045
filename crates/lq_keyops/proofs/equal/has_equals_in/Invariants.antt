use Rattle.std.proofs.Common.{map, ◌||◌, ◌≡◌}
use Rattle.std.specs.BTreeSet.{contains}
use Rattle.std.specs.List.{list_any}
use Rattle.lq_model.specs.Catalogue.{has_equals, picked}
use Rattle.lq_keyops.specs.Targets.{HasNoNull}
use Rattle.lq_rows.specs.Stored.{values_cmp}
use Rattle.lq_keyops.proofs.equal.has_equals_in.Given as goal

abbrev pub invariant-loop-row : goal.invariant-loop-row
invariant-loop-row l = record {
  fit : HasNoNull l.met;
  ahead : has_equals (map (picked l.columns l.names) l.rows.now) ≡ (list_any (contains values_cmp l.met) (map (picked l.columns l.names) l.row-iterator) || has_equals (map (picked l.columns l.names) l.row-iterator));
}
