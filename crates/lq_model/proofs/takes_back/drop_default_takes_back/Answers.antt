use Rattle.lq_model.proofs.UndoChanges.{drop_default_after}
use Rattle.lq_model.proofs.takes_back.drop_default_takes_back.Goals as goal

pub returns : goal.returns
returns c = λ d t n l by c e k sound fresh made. drop_default_after d t n l by c e k sound fresh made
