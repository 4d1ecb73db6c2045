use Rattle.std.proofs.Common.{drop, map, ◌||◌, ◌≡◌}
use Rattle.lq_base.specs.declared.name.Name.{Name}
use Rattle.lq_model.specs.Catalogue.{is_in}
use Rattle.lq_arm.specs.Verdict.{has_name}
use Rattle.lq_arm.proofs.columns.names_of.Given as goal

abbrev pub invariant-loop-column : goal.invariant-loop-column
invariant-loop-column l = (n : Name) → (has_name l.known n || is_in n (map (λ c. c.name) (drop l.column-index l.columns))) ≡ is_in n (map (λ c. c.name) l.columns)
