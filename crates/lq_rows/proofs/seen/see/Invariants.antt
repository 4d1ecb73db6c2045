use Rattle.std.proofs.Common.{List, ◌||◌, ◌≡◌}
use Rattle.std.specs.BTreeSet.{contains}
use Rattle.lq_base.specs.declared.value.Value.{Value}
use Rattle.lq_rows.specs.Stored.{values_cmp, has_values}
use Rattle.lq_rows.proofs.seen.see.Given as goal

abbrev pub invariant-loop-row : goal.invariant-loop-row
invariant-loop-row l = (values : List Value) → (contains values_cmp l.set values || has_values l.columns l.names l.row-iterator values) ≡ has_values l.columns l.names l.rows.now values
