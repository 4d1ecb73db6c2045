use Rattle.std.proofs.Common.{drop, map, ◌≡◌}
use Rattle.lq_model.specs.Catalogue.{is_in}
use Rattle.lq_query.proofs.truth.has_column.Given as goal

abbrev pub invariant-loop-column : goal.invariant-loop-column
invariant-loop-column l = is_in l.name (map (λ c. c.name) (drop l.column-index l.columns)) ≡ is_in l.name (map (λ c. c.name) l.columns)
