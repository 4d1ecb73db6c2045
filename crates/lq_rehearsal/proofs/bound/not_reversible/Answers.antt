use Rattle.std.proofs.Common.{ap, inl, inr, refl}
use Rattle.lq_tell.specs.declared.status.Status.TheVariants.{NotReversible}
use Rattle.lq_rehearsal.proofs.bound.not_reversible.Goals as goal

pub returns-in-Ok : goal.returns-in-Ok
returns-in-Ok c = inl (ap NotReversible c.in-Ok.ensures)

pub returns-in-Err : goal.returns-in-Err
returns-in-Err c = inr refl
