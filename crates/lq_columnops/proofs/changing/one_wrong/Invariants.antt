use Rattle.std.proofs.Common.{not, ◌≡◌}
use Rattle.std.specs.List.{list_any}
use Rattle.lq_model.specs.Tables.{is_variant}
use Rattle.lq_model.specs.Catalogue.{by_name}
use Rattle.lq_columnops.proofs.changing.one_wrong.Given as goal

abbrev pub invariant-loop-row : goal.invariant-loop-row
invariant-loop-row l = list_any (λ r. not (is_variant l.kind (by_name l.held.now.columns r l.column))) l.row-iterator ≡ list_any (λ r. not (is_variant l.kind (by_name l.held.now.columns r l.column))) l.held.now.rows
