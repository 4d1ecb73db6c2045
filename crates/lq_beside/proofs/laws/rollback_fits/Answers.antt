use Rattle.lq_beside.proofs.OtherFits.{rollback_fits}
use Rattle.lq_beside.proofs.laws.rollback_fits.Goals as goal

pub returns : goal.returns
returns c = rollback_fits
