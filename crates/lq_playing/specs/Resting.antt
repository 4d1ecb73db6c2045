-- Whether another call is to come after a step.
use Rattle.std.specs.Prelude.{Bool, Err, None, Ok, Option, Result, Some, ◌≡◌}
use Rattle.lq_base.specs.declared.dialect.Dialect.{Dialect}
use Rattle.lq_drill.specs.declared.fault.DrillFault.{DrillFault}
use Rattle.lq_model.specs.declared.fault.StoreFault.{StoreFault}
use Rattle.lq_playing.specs.Answers.{Answers, fault_of}
use Rattle.lq_resting.specs.Resting.{Stays}
use Rattle.lq_store.specs.Journal.{State}
use Rattle.lq_turns.specs.declared.answer.Answer.{Answer}
use Rattle.lq_turns.specs.declared.stamp.Stamp.{Stamp}

-- one is; or the fault that it met is answered
abbrev pub RestsAs : Dialect → Stamp → Option StoreFault → Bool → State → Option Answer → Bool → Option Answer → Bool → Result (Unit {0}) DrillFault → Type 0
RestsAs d stamp met within x was faulted answers now (Ok u) = Stays d stamp met within x None × (answers ≡ was) × (now ≡ faulted)
RestsAs d stamp met within x was faulted answers now (Err why) = (fault : StoreFault) × Stays d stamp met within x (Some fault) × (why ≡ fault_of fault) × Answers (Err why) faulted answers now (Err why)
