use Rattle.std.proofs.Common.{drop, length, map, ◌++◌, ◌≡◌, ◌≤◌}
use Rattle.lq_parts.specs.Steps.{tables_of}
use Rattle.lq_deletes.specs.Places.{losses, marks_of, row_total}
use Rattle.lq_deletes.proofs.loss.losses_in.Given as goal

abbrev pub invariant-loop-entry : goal.invariant-loop-entry
invariant-loop-entry l =
    let left = tables_of (drop l.entry-index l.entries) in
    (map marks_of l.all.items ++ losses l.rest left ≡ losses l.marks (tables_of l.entries)) × (row_total left ≤ length l.rest)
