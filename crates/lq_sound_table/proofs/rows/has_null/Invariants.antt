use Rattle.std.proofs.Common.{◌≡◌}
use Rattle.std.specs.List.{list_any}
use Rattle.lq_model.specs.Catalogue.{has_bad_null}
use Rattle.lq_sound_table.proofs.rows.has_null.Given as goal

abbrev pub invariant-loop-row : goal.invariant-loop-row
invariant-loop-row l = list_any (has_bad_null l.columns) l.row-iterator ≡ list_any (has_bad_null l.columns) l.rows.now
