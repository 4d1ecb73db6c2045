use Rattle.std.proofs.Common.{◌≡◌, drop}
use Rattle.lq_generate.specs.Faults.{added_fault, first_of, tables_in}
use Rattle.lq_generate.proofs.faults.first_added.Given as goal

abbrev pub invariant-loop-entry : goal.invariant-loop-entry
invariant-loop-entry l = first_of added_fault (tables_in (drop l.entry-index l.tables)) ≡ first_of added_fault (tables_in l.tables)
