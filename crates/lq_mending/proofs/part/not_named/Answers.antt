use Rattle.std.proofs.Common.{ap, inl, inr, refl}
use Rattle.lq_mending.specs.declared.outcome.RepairFault.TheVariants.{NotReversible}
use Rattle.lq_mending.proofs.part.not_named.Goals as goal

pub returns-in-Ok-clause-same : goal.returns-in-Ok-clause-same
returns-in-Ok-clause-same c = inl (ap NotReversible c.in-Ok.ensures)

pub returns-in-Err-clause-same : goal.returns-in-Err-clause-same
returns-in-Err-clause-same c = inr refl
