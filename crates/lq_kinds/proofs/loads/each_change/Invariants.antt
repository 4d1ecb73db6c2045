use Rattle.std.proofs.Common.{drop, length, true, ◌++◌, ◌≡◌}
use Rattle.std.specs.List.{list_all}
use Rattle.lq_any.specs.AnyChange.{is_for}
use Rattle.lq_kinds.specs.Changes.{changes_from, map_set}
use Rattle.lq_kinds.proofs.loads.each_change.Given as goal

abbrev pub invariant-loop-node : goal.invariant-loop-node
invariant-loop-node g l =
    (changes_from l.dialect 0 l.given l.nodes ≡ map_set (λ more. l.changes ++ more) (changes_from l.dialect (length l.changes) l.rest (drop l.node-index l.nodes)))
    × (list_all (is_for l.dialect) l.changes ≡ true)
