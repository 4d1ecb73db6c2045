use Rattle.std.proofs.Common.{length, ◌≡◌}
use Rattle.lq_model.specs.Catalogue.{has_bad_null}
use Rattle.lq_sound_table.proofs.rows.has_bad_null.Given as goal

abbrev pub invariant-loop-column : goal.invariant-loop-column
invariant-loop-column l = has_bad_null l.rest l.values ≡ has_bad_null l.columns l.row

abbrev pub decreases-loop-column : goal.decreases-loop-column
decreases-loop-column l = length l.rest
