use Rattle.lq_model.proofs.UndoConstraints.{drop_after_unique}
use Rattle.lq_model.proofs.takes_back.drop_constraint_takes_back_unique.Goals as goal

pub returns : goal.returns
returns c = λ t u by c e k sound made. drop_after_unique t u by c e k sound made
