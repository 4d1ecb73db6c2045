use Rattle.std.proofs.Common.{◌≡◌, length}
use Rattle.lq_model.specs.SqlTable.{are_ordered}
use Rattle.lq_statement.proofs.Order.{are_ordered_from}
use Rattle.lq_statement.proofs.gather.are_ordered.Given as goal

abbrev pub invariant-loop-rest : goal.invariant-loop-rest
invariant-loop-rest l = are_ordered_from l.least l.rest ≡ are_ordered l.items

abbrev pub decreases-loop-rest : goal.decreases-loop-rest
decreases-loop-rest l = length l.rest
