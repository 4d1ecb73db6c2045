use Rattle.std.proofs.Common.{Some, [], map, ◌++◌, ◌∷◌, ◌≡◌}
use Rattle.lq_model.specs.Kinds.{default_value}
use Rattle.lq_columnops.proofs.rows.all_more.Given as goal

abbrev pub invariant-loop-row : goal.invariant-loop-row
invariant-loop-row l = map (λ r. Some (r ++ default_value l.column ∷ [])) l.rows.now ≡ l.by.items ++ map (λ r. Some (r ++ default_value l.column ∷ [])) l.row-iterator
