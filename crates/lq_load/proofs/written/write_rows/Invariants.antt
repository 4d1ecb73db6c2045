use Rattle.std.proofs.Common.{drop, ◌++◌, ◌≡◌}
use Rattle.lq_model.specs.Changes.{GoesOn, canonical_values}
use Rattle.lq_load.specs.LoadData.{lists}
use Rattle.lq_load.proofs.written.write_rows.Given as goal

abbrev pub invariant-loop-row : goal.invariant-loop-row
invariant-loop-row l =
    (l.to.written ++ canonical_values (lists (drop l.row-index l.rows)) ≡ l.fn.to.written ++ canonical_values (lists l.rows))
    × (l.to.begun ≡ l.fn.to.begun)
    × GoesOn l.fn.to l.to
