use Rattle.std.proofs.Common.{◌≡◌, length}
use Rattle.lq_model.specs.SqlTable.{column_with}
use Rattle.lq_statement.proofs.Clauses.{with_clauses}
use Rattle.lq_statement.proofs.column.column_with.Given as goal

abbrev pub invariant-loop-clause : goal.invariant-loop-clause
invariant-loop-clause l = with_clauses l.clauses l.column ≡ column_with l.fn.name l.fn.kind l.fn.clauses

abbrev pub decreases-loop-clause : goal.decreases-loop-clause
decreases-loop-clause l = length l.clauses
