use Rattle.std.proofs.Common.{◌≡◌, ◌++◌}
use Rattle.lq_codec.specs.Codec.{write_each}
use Rattle.lq_codec.specs.Tables.{row_codec}
use Rattle.lq_coded.proofs.Each.{AreFit}
use Rattle.lq_state.specs.Shaped.{has_width}
use Rattle.lq_snap.proofs.tables.append_rows.Given as goal

abbrev pub invariant-loop-row : goal.invariant-loop-row
invariant-loop-row l =
    (l.to.items ++ write_each (row_codec l.columns) l.row-iterator ≡ l.fn.to.items ++ write_each (row_codec l.columns) l.rows.now)
    × (AreFit (has_width l.columns) (row_codec l.columns).ok l.row-iterator → AreFit (has_width l.columns) (row_codec l.columns).ok l.rows.now)
