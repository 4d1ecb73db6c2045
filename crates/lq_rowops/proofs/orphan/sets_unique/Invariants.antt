use Rattle.std.specs.List.{list_any}
use Rattle.std.proofs.Common.{drop, map, ◌≡◌}
use Rattle.lq_decide.specs.Faults.{meets, names_set}
use Rattle.lq_rowops.proofs.orphan.sets_unique.Given as goal

abbrev pub invariant-loop-unique : goal.invariant-loop-unique
invariant-loop-unique l =
    list_any (meets (names_set l.sets)) (map (λ u. u.columns) (drop l.unique-index l.uniques))
    ≡ list_any (meets (names_set l.sets)) (map (λ u. u.columns) l.uniques)
