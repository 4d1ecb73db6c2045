use Rattle.std.proofs.Common.{◌≡◌, ◌++◌, drop, map}
use Rattle.lq_generate.specs.Faults.{table_in, tables_in}
use Rattle.lq_generate.specs.Generated.{untracked}
use Rattle.lq_generate.proofs.users.without_tracking.Given as goal

abbrev pub invariant-loop-entry : goal.invariant-loop-entry
invariant-loop-entry l = tables_in l.found.items ++ untracked (map table_in (drop l.entry-index l.entries)) ≡ untracked (map table_in l.entries)
