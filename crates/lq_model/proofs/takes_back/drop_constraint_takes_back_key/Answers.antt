use Rattle.lq_model.proofs.UndoConstraints.{drop_after_key}
use Rattle.lq_model.proofs.takes_back.drop_constraint_takes_back_key.Goals as goal

pub returns : goal.returns
returns c = λ t k by c e n sound fresh made. drop_after_key t k by c e n sound fresh made
