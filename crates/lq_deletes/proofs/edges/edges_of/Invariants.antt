use Rattle.std.proofs.Common.{[], take, vec_len, ◌≡◌}
use Rattle.lq_parts.specs.Steps.{tables_of}
use Rattle.lq_deletes.specs.Places.{Gains, tables_linked, row_total}
use Rattle.lq_deletes.proofs.edges.edges_of.Given as goal

abbrev pub invariant-loop-entry : goal.invariant-loop-entry
invariant-loop-entry l =
    let done = tables_of (take l.entry-index l.entries) in
    Gains (tables_linked (tables_of l.entries) 0 done) [] l.edges.items × (l.first ≡ row_total done) × (vec_len l.edges ≡ l.count)
