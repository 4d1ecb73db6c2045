use Rattle.lq_model.proofs.UndoChanges.{drop_not_null_after}
use Rattle.lq_model.proofs.takes_back.drop_not_null_takes_back.Goals as goal

pub returns : goal.returns
returns c = λ d t n by c e k sound fresh made. drop_not_null_after d t n by c e k sound fresh made
