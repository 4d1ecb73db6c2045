use Rattle.std.proofs.Common.{subst, ◌∙◌}
use Rattle.std.specs.Prelude.{Result}
use Rattle.lq_commands.specs.Outputs.{TellsJob}
use Rattle.lq_tell.specs.declared.done.Done.{Done}
use Rattle.lq_tell.specs.declared.status.Status.{Status}
use Rattle.lq_jobs.proofs.CopyRoom.{no_end}
use Rattle.lq_jobs.proofs.copying.in_memory.Goals as goal

pub returns-in-Ok-clause-tells : goal.returns-in-Ok-clause-tells
returns-in-Ok-clause-tells c = λ job given database tells. subst (λ (r : Result Done Status). TellsJob job given database r) c.in-Ok.is tells

pub returns-in-Ok-clause-ended : goal.returns-in-Ok-clause-ended
returns-in-Ok-clause-ended c = λ ended is. c.in-Ok.is ∙ is

pub returns-in-Err-clause-ended : goal.returns-in-Err-clause-ended
returns-in-Err-clause-ended c = λ ended is. absurd (no_end c.copy_status.result ended is)

pub returns-in-Err-clause-tells : goal.returns-in-Err-clause-tells
returns-in-Err-clause-tells c = λ job given database tells. tt
