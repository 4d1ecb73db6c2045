use Rattle.std.proofs.Common.{◌≡◌, ◌+◌, length}
use Rattle.lq_deletes.proofs.PlaceLemmas.{Noted}
use Rattle.lq_deletes.proofs.places.places.Given as goal

abbrev pub invariant-loop-row : goal.invariant-loop-row
invariant-loop-row l = Noted l.columns l.names l.first l.rows.now l.places l.at l.row-iterator × (l.at + length l.row-iterator ≡ l.first + length l.rows.now)
