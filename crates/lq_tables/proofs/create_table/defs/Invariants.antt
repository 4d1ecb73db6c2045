use Rattle.std.proofs.Common.{drop, map, ◌++◌, ◌≡◌}
use Rattle.lq_tables.specs.CreateTable.{def_of}
use Rattle.lq_tables.proofs.create_table.defs.Given as goal

abbrev pub invariant-loop-column : goal.invariant-loop-column
invariant-loop-column l = map def_of l.columns ≡ l.made ++ map def_of (drop l.column-index l.columns)
