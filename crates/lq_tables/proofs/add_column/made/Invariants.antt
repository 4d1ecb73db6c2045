use Rattle.std.proofs.Common.{length, ◌++◌, ◌≡◌}
use Rattle.std.specs.List.{flat_map}
use Rattle.lq_tables.specs.AddColumn.{column_gives}
use Rattle.lq_tables.proofs.add_column.made.Given as goal

abbrev pub invariant-loop-column : goal.invariant-loop-column
invariant-loop-column l = l.made ++ flat_map (column_gives l.dialect l.table) l.rest ≡ flat_map (column_gives l.dialect l.table) l.columns

abbrev pub decreases-loop-column : goal.decreases-loop-column
decreases-loop-column l = length l.rest
