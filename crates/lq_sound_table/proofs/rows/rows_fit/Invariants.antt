use Rattle.std.proofs.Common.{◌≡◌}
use Rattle.std.specs.List.{list_all}
use Rattle.lq_model.specs.Catalogue.{row_fits}
use Rattle.lq_sound_table.proofs.rows.rows_fit.Given as goal

abbrev pub invariant-loop-row : goal.invariant-loop-row
invariant-loop-row l = list_all (row_fits l.columns) l.row-iterator ≡ list_all (row_fits l.columns) l.rows.now
