use Rattle.std.proofs.Common.{◌≡◌, ◌++◌, drop}
use Rattle.lq_rows.specs.Stored.{places_from}
use Rattle.lq_rows.proofs.print.places_of.Given as goal

abbrev pub invariant-loop-at : goal.invariant-loop-at
invariant-loop-at l = places_from 0 l.print l.prints ≡ l.places.items ++ places_from l.at l.print (drop l.at l.prints)
