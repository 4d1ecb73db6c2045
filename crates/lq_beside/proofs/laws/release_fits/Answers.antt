use Rattle.lq_beside.proofs.OtherFits.{release_fits}
use Rattle.lq_beside.proofs.laws.release_fits.Goals as goal

pub returns : goal.returns
returns c = release_fits
