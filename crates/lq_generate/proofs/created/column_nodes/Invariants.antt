use Rattle.std.proofs.Common.{◌≡◌, ◌++◌, drop, map}
use Rattle.std.specs.Option.{option_copied}
use Rattle.lq_generate.specs.Created.{column_tree}
use Rattle.lq_generate.proofs.created.column_nodes.Given as goal

abbrev pub invariant-loop-column : goal.invariant-loop-column
invariant-loop-column l = l.nodes ++ map (column_tree l.dialect (option_copied l.fn.key)) (drop l.column-index l.columns) ≡ map (column_tree l.dialect (option_copied l.fn.key)) l.columns
