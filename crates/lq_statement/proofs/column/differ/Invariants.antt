use Rattle.std.proofs.Common.{◌≡◌, length}
use Rattle.lq_model.specs.SqlTable.{differ}
use Rattle.lq_statement.proofs.column.differ.Given as goal

abbrev pub invariant-loop-rest : goal.invariant-loop-rest
invariant-loop-rest l = differ l.rest ≡ differ l.clauses

abbrev pub decreases-loop-rest : goal.decreases-loop-rest
decreases-loop-rest l = length l.rest
