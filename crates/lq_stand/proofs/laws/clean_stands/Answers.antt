use Rattle.lq_stand.proofs.Clean.{clean_stands}
use Rattle.lq_stand.proofs.laws.clean_stands.Goals as goal

pub returns : goal.returns
returns c = clean_stands
