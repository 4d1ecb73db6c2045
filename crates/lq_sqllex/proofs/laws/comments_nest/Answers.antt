use Rattle.lq_sqllex.proofs.NestedComment.{nested}
use Rattle.lq_sqllex.proofs.laws.comments_nest.Goals as goal

pub returns : goal.returns
returns c = nested
