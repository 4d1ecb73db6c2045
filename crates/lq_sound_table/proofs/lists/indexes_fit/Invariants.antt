use Rattle.std.proofs.Common.{drop, ◌≡◌}
use Rattle.std.specs.List.{list_all}
use Rattle.lq_sound_table.specs.Pieces.{are_some_of}
use Rattle.lq_sound_table.proofs.lists.indexes_fit.Given as goal

abbrev pub invariant-loop-index : goal.invariant-loop-index
invariant-loop-index l = list_all (λ x. are_some_of l.own x.columns) (drop l.index-index l.indexes) ≡ list_all (λ x. are_some_of l.own x.columns) l.indexes
