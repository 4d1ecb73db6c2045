use Rattle.std.proofs.Common.{length, ◌≡◌}
use Rattle.lq_model.specs.Catalogue.{row_fits}
use Rattle.lq_sound_table.proofs.rows.row_fits.Given as goal

abbrev pub invariant-loop-column : goal.invariant-loop-column
invariant-loop-column l = row_fits l.rest l.values ≡ row_fits l.columns l.row

abbrev pub decreases-loop-column : goal.decreases-loop-column
decreases-loop-column l = length l.rest
