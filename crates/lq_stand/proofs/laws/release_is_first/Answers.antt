use Rattle.lq_stand.proofs.FirstRows.{release_is_first}
use Rattle.lq_stand.proofs.laws.release_is_first.Goals as goal

pub returns : goal.returns
returns c = release_is_first
