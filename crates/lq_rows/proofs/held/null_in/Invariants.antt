use Rattle.std.proofs.Common.{◌≡◌}
use Rattle.std.specs.List.{list_any}
use Rattle.lq_model.specs.Catalogue.{by_name, is_null}
use Rattle.lq_rows.proofs.held.null_in.Given as goal

abbrev pub invariant-loop-row : goal.invariant-loop-row
invariant-loop-row l = list_any (λ row. is_null (by_name l.columns row l.column)) l.row-iterator ≡ list_any (λ row. is_null (by_name l.columns row l.column)) l.rows.now
