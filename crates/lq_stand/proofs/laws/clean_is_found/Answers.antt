use Rattle.lq_stand.proofs.StaysClean.{clean_is_found}
use Rattle.lq_stand.proofs.laws.clean_is_found.Goals as goal

pub returns : goal.returns
returns c = clean_is_found
