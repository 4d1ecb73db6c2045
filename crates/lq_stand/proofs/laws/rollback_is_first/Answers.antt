use Rattle.lq_stand.proofs.FirstRows.{rollback_is_first}
use Rattle.lq_stand.proofs.laws.rollback_is_first.Goals as goal

pub returns : goal.returns
returns c = rollback_is_first
