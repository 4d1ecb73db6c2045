use Rattle.std.proofs.Common.{◌≡◌}
use Rattle.std.specs.List.{list_any}
use Rattle.lq_model.specs.Catalogue.{picked}
use Rattle.lq_rows.specs.Stored.{is_apart}
use Rattle.lq_rows.proofs.whole.lacks_one.Given as goal

abbrev pub invariant-loop-row : goal.invariant-loop-row
invariant-loop-row l = list_any (λ row. is_apart l.set (picked l.columns l.names row)) l.row-iterator ≡ list_any (λ row. is_apart l.set (picked l.columns l.names row)) l.rows.now
