use Rattle.std.proofs.Common.{◌≡◌, ◌++◌, drop, map}
use Rattle.lq_generate.specs.Generated.{view_item}
use Rattle.lq_generate.proofs.sets.view_items.Given as goal

abbrev pub invariant-loop-entry : goal.invariant-loop-entry
invariant-loop-entry l = l.nodes ++ map (view_item l.dialect) (drop l.entry-index l.views) ≡ map (view_item l.dialect) l.views
