-- With a fault a command does not come to its end.
use Rattle.std.specs.Prelude.{None, Option, Some, is_some, true, ◌≡◌}
use Rattle.lq_model.specs.declared.fault.StoreFault.{StoreFault}
use Rattle.lq_model.specs.declared.fault.StoreFault.TheVariants as fault
use Rattle.lq_turns.specs.declared.stop.Refusal.{Refusal}
use Rattle.lq_run.proofs.Counting.{not_true}
use Rattle.lq_run.specs.Beside.{StopsAs}
use Rattle.lq_run.specs.Steps.{end_of, last_end}
use Rattle.lq_run.specs.declared.runner.Step.TheVariants as step

pub fault_stops : (why : StoreFault) (before : Option StoreFault) → StopsAs before (step.Ended (end_of why))
fault_stops fault.Disk before = tt
fault_stops (fault.Full used next) before = tt
fault_stops fault.OutOfMemory before = tt
fault_stops (fault.Busy n) before = tt
fault_stops fault.NotSql before = tt
fault_stops (fault.Refused reason) before = tt

pub last_stops : (f : Option StoreFault) (refused : Option Refusal) (before : Option StoreFault) → is_some f ≡ true → StopsAs before (step.Ended (last_end f refused))
last_stops None refused before met = absurd (not_true met)
last_stops (Some why) refused before met = fault_stops why before
