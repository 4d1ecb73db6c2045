use Rattle.std.proofs.Common.{length, reverse, ◌++◌, ◌≡◌}
use Rattle.lq_rows.specs.Stored.{shape_of, table_as}
use Rattle.lq_filled.proofs.rows.append_rows.Given as goal

abbrev pub invariant-loop-row : goal.invariant-loop-row
invariant-loop-row l = record {
  next : l.held.now.next ≡ l.next;
  all : table_as (shape_of l.held.now) l.next (l.held.now.rows ++ reverse l.left)
      ≡ table_as (shape_of l.fn.held.now) l.fn.held.now.next (l.fn.held.now.rows ++ reverse l.fn.rows);
}

abbrev pub decreases-loop-row : goal.decreases-loop-row
decreases-loop-row l = length l.left
