use Rattle.std.proofs.Common.{drop, not, ◌++◌, ◌≡◌}
use Rattle.std.specs.List.{filter}
use Rattle.lq_base.specs.Name.{is_named}
use Rattle.lq_keyops.proofs.lists.indexes_without.Given as goal

abbrev pub invariant-loop-index : goal.invariant-loop-index
invariant-loop-index l = l.kept ++ filter (λ x. not (is_named l.name x.name)) (drop l.index-index l.indexes) ≡ filter (λ x. not (is_named l.name x.name)) l.indexes
