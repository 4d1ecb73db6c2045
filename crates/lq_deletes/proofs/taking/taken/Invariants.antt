use Rattle.std.proofs.Common.{drop, ◌++◌, ◌≡◌}
use Rattle.std.specs.List.{flat_map}
use Rattle.lq_parts.specs.Steps.{tables_of}
use Rattle.lq_deletes.specs.Places.{taken_in}
use Rattle.lq_deletes.proofs.taking.taken.Given as goal

abbrev pub invariant-loop-entry : goal.invariant-loop-entry
invariant-loop-entry l = l.marks.items ++ flat_map (taken_in l.table l.test l.columns) (tables_of (drop l.entry-index l.entries)) ≡ flat_map (taken_in l.table l.test l.columns) (tables_of l.entries)
