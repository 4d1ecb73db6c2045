use Rattle.std.proofs.Common.{◌≡◌, ◌++◌, drop, map}
use Rattle.lq_generate.specs.Generated.{table_item}
use Rattle.lq_generate.specs.Faults.{tables_in}
use Rattle.lq_generate.proofs.sets.table_items.Given as goal

abbrev pub invariant-loop-entry : goal.invariant-loop-entry
invariant-loop-entry l = l.nodes ++ map (table_item l.dialect) (tables_in (drop l.entry-index l.tables)) ≡ map (table_item l.dialect) (tables_in l.tables)
