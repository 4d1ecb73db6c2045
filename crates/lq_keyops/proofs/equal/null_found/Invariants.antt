use Rattle.std.proofs.Common.{◌≡◌}
use Rattle.std.specs.List.{list_any}
use Rattle.lq_model.specs.Catalogue.{by_name, is_null}
use Rattle.lq_keyops.proofs.equal.null_found.Given as goal

abbrev pub invariant-loop-row : goal.invariant-loop-row
invariant-loop-row l = list_any (λ row. list_any (λ n. is_null (by_name l.columns row n)) l.names) l.row-iterator ≡ list_any (λ row. list_any (λ n. is_null (by_name l.columns row n)) l.names) l.rows.now
