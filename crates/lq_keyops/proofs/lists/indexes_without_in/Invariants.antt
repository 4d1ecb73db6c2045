use Rattle.std.proofs.Common.{drop, not, ◌++◌, ◌≡◌}
use Rattle.std.specs.List.{filter}
use Rattle.lq_base.specs.Name.{beside, is_named}
use Rattle.lq_keyops.proofs.lists.indexes_without_in.Given as goal

abbrev pub invariant-loop-index : goal.invariant-loop-index
invariant-loop-index l = l.kept ++ filter (λ x. not (is_named l.name (beside l.table x.name))) (drop l.index-index l.indexes) ≡ filter (λ x. not (is_named l.name (beside l.table x.name))) l.indexes
