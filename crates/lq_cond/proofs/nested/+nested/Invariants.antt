use Rattle.std.proofs.Common.{◌≡◌, ◌+◌, ◌*◌, ◌++◌, drop}
use Rattle.lq_tree.specs.Look.{map_found}
use Rattle.lq_cond.specs.Reading.{cond_at, conditions, each_item, each_key}
use Rattle.lq_cond.proofs.nested.+nested.Given as goal

abbrev pub decreases-conditions : goal.decreases-conditions
decreases-conditions g l = l.levels * 7 + 0

abbrev pub decreases-conditions_at : goal.decreases-conditions_at
decreases-conditions_at g l = l.levels * 7 + 1

abbrev pub decreases-cond_at : goal.decreases-cond_at
decreases-cond_at g l = l.levels * 7 + 2

abbrev pub decreases-at_keys : goal.decreases-at_keys
decreases-at_keys g l = l.levels * 7 + 3

abbrev pub decreases-in_item : goal.decreases-in_item
decreases-in_item g l = l.levels * 7 + 4

abbrev pub decreases-in_items : goal.decreases-in_items
decreases-in_items g l = l.levels * 7 + 6

abbrev pub invariant-in_items-loop-place : goal.invariant-in_items-loop-place
invariant-in_items-loop-place g l =
    each_item 0 (cond_at g.P.SqlText.dialect (conditions g.P.SqlText.dialect l.levels)) l.nodes
    ≡ map_found (λ more. l.conds ++ more) (each_item l.place (cond_at g.P.SqlText.dialect (conditions g.P.SqlText.dialect l.levels)) (drop l.place l.nodes))

abbrev pub invariant-at_keys-loop-entry : goal.invariant-at_keys-loop-entry
invariant-at_keys-loop-entry g l =
    each_key (cond_at g.P.SqlText.dialect (conditions g.P.SqlText.dialect l.levels)) l.entries
    ≡ map_found (λ more. l.conds ++ more) (each_key (cond_at g.P.SqlText.dialect (conditions g.P.SqlText.dialect l.levels)) (drop l.entry-index l.entries))

abbrev pub decreases-at_place : goal.decreases-at_place
decreases-at_place g l = l.levels * 7 + 5
