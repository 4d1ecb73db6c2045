use Rattle.lq_beside.proofs.OtherFits.{clear_fits}
use Rattle.lq_beside.proofs.laws.clear_fits.Goals as goal

pub returns : goal.returns
returns c = clear_fits
