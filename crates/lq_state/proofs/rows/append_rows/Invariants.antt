use Rattle.std.proofs.Common.{◌≡◌, ◌++◌, length}
use Rattle.lq_codec.specs.Codec.{write_each}
use Rattle.lq_codec.specs.Tables.{row_codec}
use Rattle.lq_coded.proofs.Each.{AreFit}
use Rattle.lq_state.specs.Shaped.{has_width}
use Rattle.lq_state.proofs.rows.append_rows.Given as goal

abbrev pub invariant-loop-row : goal.invariant-loop-row
invariant-loop-row l =
    (l.to.items ++ write_each (row_codec l.columns) l.rest ≡ l.fn.to.items ++ write_each (row_codec l.columns) l.rows)
    × (AreFit (has_width l.columns) (row_codec l.columns).ok l.rest → AreFit (has_width l.columns) (row_codec l.columns).ok l.rows)

abbrev pub decreases-loop-row : goal.decreases-loop-row
decreases-loop-row l = length l.rest
