use Rattle.std.proofs.Common.{drop, ◌≡◌}
use Rattle.lq_model.specs.Catalogue as row
use Rattle.lq_rows.proofs.pick.by_name.Given as goal

abbrev pub invariant-loop-column : goal.invariant-loop-column
invariant-loop-column l = row.by_name (drop l.column-index l.columns) l.left l.name ≡ row.by_name l.columns l.row l.name
