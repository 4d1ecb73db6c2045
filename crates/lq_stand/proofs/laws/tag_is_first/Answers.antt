use Rattle.lq_stand.proofs.FirstRows.{tag_is_first}
use Rattle.lq_stand.proofs.laws.tag_is_first.Goals as goal

pub returns : goal.returns
returns c = tag_is_first
