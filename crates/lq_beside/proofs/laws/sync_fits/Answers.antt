use Rattle.lq_beside.proofs.OtherFits.{sync_fits}
use Rattle.lq_beside.proofs.laws.sync_fits.Goals as goal

pub returns : goal.returns
returns g c = sync_fits _
