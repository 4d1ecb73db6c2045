use Rattle.lq_stand.proofs.StaysClean.{calls_stay_clean}
use Rattle.lq_stand.proofs.laws.calls_stay_clean.Goals as goal

pub returns : goal.returns
returns c = calls_stay_clean
