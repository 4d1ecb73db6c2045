use Rattle.std.proofs.Common.{length, ◌++◌, ◌≡◌}
use Rattle.std.specs.List.{flat_map}
use Rattle.lq_tables.specs.CreateTable.{foreign_of}
use Rattle.lq_tables.proofs.create_table.foreign_keys.Given as goal

abbrev pub invariant-loop-column : goal.invariant-loop-column
invariant-loop-column l = l.made ++ flat_map (foreign_of l.table) l.rest ≡ flat_map (foreign_of l.table) l.columns

abbrev pub decreases-loop-column : goal.decreases-loop-column
decreases-loop-column l = length l.rest
