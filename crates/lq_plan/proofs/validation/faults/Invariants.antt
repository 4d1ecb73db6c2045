use Rattle.lq_plan.proofs.Behind.{IsBehind}
use Rattle.lq_plan.proofs.validation.faults.Given as goal

abbrev pub invariant-loop-head : goal.invariant-loop-head
invariant-loop-head l = IsBehind l.heads l.rows l.head-index l.seen l.found
