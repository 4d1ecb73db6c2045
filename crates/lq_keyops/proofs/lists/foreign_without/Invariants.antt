use Rattle.std.proofs.Common.{drop, not, ◌++◌, ◌≡◌}
use Rattle.std.specs.List.{filter}
use Rattle.lq_base.specs.Name.{is_named}
use Rattle.lq_keyops.proofs.lists.foreign_without.Given as goal

abbrev pub invariant-loop-key : goal.invariant-loop-key
invariant-loop-key l = l.kept ++ filter (λ x. not (is_named l.name x.name)) (drop l.key-index l.keys) ≡ filter (λ x. not (is_named l.name x.name)) l.keys
