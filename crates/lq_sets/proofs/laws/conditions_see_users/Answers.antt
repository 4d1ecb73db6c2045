use Rattle.lq_sets.proofs.Seen.{conditions_see}
use Rattle.lq_sets.proofs.laws.conditions_see_users.Goals as goal

pub returns : goal.returns
returns c = conditions_see
