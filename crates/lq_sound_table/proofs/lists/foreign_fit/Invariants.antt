use Rattle.std.proofs.Common.{drop, ◌≡◌}
use Rattle.std.specs.List.{list_all}
use Rattle.lq_sound_table.specs.Pieces.{are_some_of}
use Rattle.lq_sound_table.proofs.lists.foreign_fit.Given as goal

abbrev pub invariant-loop-key : goal.invariant-loop-key
invariant-loop-key l = list_all (λ x. are_some_of l.own x.columns) (drop l.key-index l.keys) ≡ list_all (λ x. are_some_of l.own x.columns) l.keys
