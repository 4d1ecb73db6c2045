use Rattle.std.proofs.Common.{drop, map, ◌≡◌}
use Rattle.std.specs.List.{list_any}
use Rattle.lq_model.specs.Catalogue.{has_equals, picked}
use Rattle.lq_sound_table.proofs.rows.unique_twins.Given as goal

abbrev pub invariant-loop-unique : goal.invariant-loop-unique
invariant-loop-unique l = list_any (λ u. has_equals (map (picked l.columns u.columns) l.rows.now)) (drop l.unique-index l.uniques) ≡ list_any (λ u. has_equals (map (picked l.columns u.columns) l.rows.now)) l.uniques
