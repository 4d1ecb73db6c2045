use Rattle.std.proofs.Common.{drop, ◌+◌, ◌≡◌}
use Rattle.lq_parts.specs.Steps.{tables_of}
use Rattle.lq_deletes.specs.Places.{row_total}
use Rattle.lq_deletes.proofs.PlaceLemmas.{Sought}
use Rattle.lq_deletes.proofs.places.parents_of.Given as goal

abbrev pub invariant-loop-entry : goal.invariant-loop-entry
invariant-loop-entry l =
    let left = tables_of (drop l.entry-index l.entries) in
    Sought l.key (tables_of l.entries) l.first left × (l.first + row_total left ≡ row_total (tables_of l.entries))
