use Rattle.lq_model.proofs.UndoChanges.{set_not_null_after}
use Rattle.lq_model.proofs.takes_back.set_not_null_takes_back.Goals as goal

pub returns : goal.returns
returns c = λ d t n by c e k sound fresh made. set_not_null_after d t n by c e k sound fresh made
