use Rattle.lq_stand.proofs.FirstRows.{sync_is_first}
use Rattle.lq_stand.proofs.laws.sync_is_first.Goals as goal

pub returns : goal.returns
returns g c = sync_is_first _
