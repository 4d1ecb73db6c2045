use Rattle.lq_solo.proofs.Works.{works_answer_own}
use Rattle.lq_solo.proofs.laws.works_answer_own.Goals as goal

pub returns : goal.returns
returns c = works_answer_own
