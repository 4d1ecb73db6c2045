use Rattle.std.proofs.Common.{drop}
use Rattle.lq_parts.specs.Taken.{foreign_inside}
use Rattle.lq_parts.proofs.TakenLemmas.{Sees}
use Rattle.lq_parts.proofs.taken.see_foreign.Given as goal

abbrev pub invariant-loop-entry : goal.invariant-loop-entry
invariant-loop-entry l = Sees foreign_inside l.tables l.set (drop l.entry-index l.tables)
