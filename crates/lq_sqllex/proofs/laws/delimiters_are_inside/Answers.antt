use Rattle.lq_sqllex.proofs.InsidePlaces.{delimiters_inside}
use Rattle.lq_sqllex.proofs.laws.delimiters_are_inside.Goals as goal

pub returns : goal.returns
returns c = delimiters_inside
