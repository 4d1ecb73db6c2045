use Rattle.std.proofs.Common.{drop, not, ◌++◌, ◌≡◌}
use Rattle.std.specs.List.{filter}
use Rattle.lq_base.specs.Name.{is_named}
use Rattle.lq_keyops.proofs.lists.uniques_without.Given as goal

abbrev pub invariant-loop-unique : goal.invariant-loop-unique
invariant-loop-unique l = l.kept ++ filter (λ x. not (is_named l.name x.name)) (drop l.unique-index l.uniques) ≡ filter (λ x. not (is_named l.name x.name)) l.uniques
