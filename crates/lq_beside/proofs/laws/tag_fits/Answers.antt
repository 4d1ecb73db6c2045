use Rattle.lq_beside.proofs.OtherFits.{tag_fits}
use Rattle.lq_beside.proofs.laws.tag_fits.Goals as goal

pub returns : goal.returns
returns c = tag_fits
