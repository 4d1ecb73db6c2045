use Rattle.std.proofs.Common.{◌≡◌, ◌++◌, drop}
use Rattle.std.specs.List.{flat_map}
use Rattle.lq_generate.specs.Generated.{added_items}
use Rattle.lq_generate.specs.Faults.{tables_in}
use Rattle.lq_generate.proofs.sets.all_added.Given as goal

abbrev pub invariant-loop-entry : goal.invariant-loop-entry
invariant-loop-entry l = l.nodes ++ flat_map (added_items l.dialect) (tables_in (drop l.entry-index l.tables)) ≡ flat_map (added_items l.dialect) (tables_in l.tables)
