use Rattle.std.proofs.Common.{not, ◌&&◌, ◌≡◌}
use Rattle.std.specs.BTreeSet.{contains}
use Rattle.std.specs.List.{list_any}
use Rattle.lq_model.specs.Catalogue.{is_null, picked}
use Rattle.lq_rows.specs.Stored.{values_cmp}
use Rattle.lq_keyops.proofs.foreign.lacks_one_parent.Given as goal

abbrev pub invariant-loop-row : goal.invariant-loop-row
invariant-loop-row l = list_any (λ r. not (list_any is_null (picked l.columns l.names r)) && not (contains values_cmp l.known (picked l.columns l.names r))) l.row-iterator ≡ list_any (λ r. not (list_any is_null (picked l.columns l.names r)) && not (contains values_cmp l.known (picked l.columns l.names r))) l.rows.now
