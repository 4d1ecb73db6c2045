use Rattle.std.proofs.Common.{◌≡◌, ◌++◌, drop, map}
use Rattle.lq_generate.specs.Created.{index_column_tree}
use Rattle.lq_generate.proofs.added.index_columns.Given as goal

abbrev pub invariant-loop-name : goal.invariant-loop-name
invariant-loop-name l = l.nodes ++ map index_column_tree (drop l.name-index l.names) ≡ map index_column_tree l.names
