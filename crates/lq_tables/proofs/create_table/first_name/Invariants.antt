use Rattle.std.proofs.Common.{length, ◌≡◌}
use Rattle.lq_tables.specs.CreateTable.{first_name}
use Rattle.lq_tables.proofs.create_table.first_name.Given as goal

abbrev pub invariant-loop-column : goal.invariant-loop-column
invariant-loop-column l = first_name l.rest ≡ first_name l.columns

abbrev pub decreases-loop-column : goal.decreases-loop-column
decreases-loop-column l = length l.rest
