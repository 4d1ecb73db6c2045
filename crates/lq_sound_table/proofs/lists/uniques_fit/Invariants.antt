use Rattle.std.proofs.Common.{drop, ◌≡◌}
use Rattle.std.specs.List.{list_all}
use Rattle.lq_sound_table.specs.Pieces.{are_some_of}
use Rattle.lq_sound_table.proofs.lists.uniques_fit.Given as goal

abbrev pub invariant-loop-unique : goal.invariant-loop-unique
invariant-loop-unique l = list_all (λ x. are_some_of l.own x.columns) (drop l.unique-index l.uniques) ≡ list_all (λ x. are_some_of l.own x.columns) l.uniques
