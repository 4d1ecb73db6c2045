use Rattle.lq_stand.proofs.StaysClean.{stops_stay_clean}
use Rattle.lq_stand.proofs.laws.stops_stay_clean.Goals as goal

pub returns : goal.returns
returns c = stops_stay_clean
