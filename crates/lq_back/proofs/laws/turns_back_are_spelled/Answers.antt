use Rattle.lq_back.proofs.Spelled.{turns_back_spelled}
use Rattle.lq_back.proofs.laws.turns_back_are_spelled.Goals as goal

pub returns : goal.returns
returns c = turns_back_spelled
