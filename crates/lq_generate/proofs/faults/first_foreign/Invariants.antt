use Rattle.std.proofs.Common.{◌≡◌, drop}
use Rattle.lq_generate.specs.Faults.{first_of, foreign_faults, tables_in}
use Rattle.lq_generate.proofs.faults.first_foreign.Given as goal

abbrev pub invariant-loop-entry : goal.invariant-loop-entry
invariant-loop-entry l = first_of foreign_faults (tables_in (drop l.entry-index l.tables)) ≡ first_of foreign_faults (tables_in l.tables)
