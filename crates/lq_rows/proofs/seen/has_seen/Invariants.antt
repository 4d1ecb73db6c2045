use Rattle.std.proofs.Common.{List, length}
use Rattle.lq_base.specs.declared.value.Value.{Value as Held}
use Rattle.lq_model.specs.declared.column.Column.{Column as Shape}
use Rattle.lq_rows.specs.Stored.{AllShow}
use Rattle.lq_rows.proofs.seen.has_seen.Given as goal

abbrev pub invariant-loop-one : goal.invariant-loop-one
invariant-loop-one l = (columns : List Shape) (rows : List (List Held)) → AllShow columns rows l.seen → AllShow columns rows l.left

abbrev pub decreases-loop-one : goal.decreases-loop-one
decreases-loop-one l = length l.left
