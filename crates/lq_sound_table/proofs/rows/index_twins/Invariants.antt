use Rattle.std.proofs.Common.{drop, map, ◌≡◌}
use Rattle.std.specs.List.{filter, list_any}
use Rattle.lq_model.specs.Catalogue.{has_equals, picked}
use Rattle.lq_sound_table.proofs.rows.index_twins.Given as goal

abbrev pub invariant-loop-index : goal.invariant-loop-index
invariant-loop-index l = list_any (λ i. has_equals (map (picked l.columns i.columns) l.rows.now)) (filter (λ i. i.unique) (drop l.index-index l.indexes)) ≡ list_any (λ i. has_equals (map (picked l.columns i.columns) l.rows.now)) (filter (λ i. i.unique) l.indexes)
