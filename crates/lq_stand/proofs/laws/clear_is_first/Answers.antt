use Rattle.lq_stand.proofs.FirstRows.{clear_is_first}
use Rattle.lq_stand.proofs.laws.clear_is_first.Goals as goal

pub returns : goal.returns
returns c = clear_is_first
