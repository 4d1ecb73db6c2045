use Rattle.std.proofs.Common.{Some, map, take, ◌≡◌}
use Rattle.lq_model.specs.Tables.{key_column}
use Rattle.lq_keyops.proofs.primary.all_keyed.Given as goal

abbrev pub invariant-loop-column : goal.invariant-loop-column
invariant-loop-column l = l.made ≡ map (key_column (Some l.key)) (take l.column-index l.columns)
