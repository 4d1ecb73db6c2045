use Rattle.std.proofs.Common.{drop}
use Rattle.std.specs.List.{AllByRecursion}
use Rattle.lq_named.specs.Named.{TableHasNames}
use Rattle.lq_parts.specs.Steps.{tables_of}
use Rattle.lq_named.proofs.named.all_tables.Given as goal

abbrev pub invariant-loop-entry : goal.invariant-loop-entry
invariant-loop-entry l = AllByRecursion TableHasNames (tables_of (drop l.entry-index l.tables)) → AllByRecursion TableHasNames (tables_of l.tables)
